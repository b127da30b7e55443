-- A path has a route exactly where it is the path of that route.
use Rattle.std.proofs.Common.{◌≡◌, ℕ, ◌-◌, List, [], ◌∷◌, ◌++◌, length, take, drop, get_or, Bool, true, false, cond, ◌&&◌, refl, sym, ap}
use Rattle.std.proofs.Common.{◌∙◌, subst, arith, append_assoc, length-append, codes}
use Rattle.std.specs.Prelude.{Option, Some, None, ◌==◌}
use Rattle.std.specs.Cmp.{unsigned_Decides}
use Rattle.std.specs.List.{list_all}
use Rattle.std.specs.Str.{bytes_eq}
use Rattle.std.proofs.lemmas.Slice.Eq.{bytes_eq-Decides}
use Rattle.std.proofs.lemmas.List.{take-append-drop, same_from_push}
use Rattle.std.proofs.lemmas.List.Folds.{list_all-append}
use Rattle.std.proofs.Math.Seq.{take-append_seam, drop-append_seam}
use Rattle.ix_http.specs.Routes.{Route, channel, blocks, end, acks, buckets, events, is_name_byte, is_channel_name, is_segment, behind}
use Rattle.ix_http.specs.Routes.{before, named, under_channels, channel_route, under_indexes, index_route, by_front, route_of, path_text}
use Rattle.ix_http.specs.Routes.{IsNamed, RoutesAreExact}

-- ---- choices

if-true : {A : Type 0} (b : Bool) (x y : A) → b ≡ true → cond b x y ≡ x
if-true true x y e = refl
if-true false x y e = cc

if-false : {A : Type 0} (b : Bool) (x y : A) → b ≡ false → cond b x y ≡ y
if-false false x y e = refl
if-false true x y e = cc

-- a choice of something or nothing
some-if : {A : Type 0} (b : Bool) (x y : A) → cond b (Some x) None ≡ Some y → (b ≡ true) × (x ≡ y)
some-if true x y e = (refl, cc)
some-if false x y e = cc

named-to : (test : List ℕ → Bool) (f : List ℕ → Route) (name : List ℕ) (r : Route) → named test f name ≡ Some r → (test name ≡ true)
    × (f name ≡ r)
named-to test f name r e = some-if (test name) (f name) r e

pub named-from : (test : List ℕ → Bool) (f : List ℕ → Route) (name : List ℕ) → test name ≡ true → named test f name ≡ Some (f name)
named-from test f name e = if-true (test name) (Some (f name)) None e

-- ---- fronts and ends

behind-to : (front text rest : List ℕ) → behind front text ≡ Some rest → text ≡ front ++ rest
behind-to front text rest e =
    let p = some-if (bytes_eq (take (length front) text) front) (drop (length front) text) rest e in
    sym (take-append-drop (length front) text)
    ∙ ap (λ t. t ++ drop (length front) text) ((bytes_eq-Decides (take (length front) text) front).0 p.0)
    ∙ ap (λ t. front ++ t) p.1

behind-from : (front text rest : List ℕ) → text ≡ front ++ rest → behind front text ≡ Some rest
behind-from front text rest e =
    let same = (bytes_eq-Decides (take (length front) text) front).1 (ap (take (length front)) e ∙ take-append_seam front rest) in
    if-true (bytes_eq (take (length front) text) front) (Some (drop (length front) text)) None same
    ∙ ap Some (ap (drop (length front)) e ∙ drop-append_seam front rest)

pub before-to : (tail text rest : List ℕ) → before tail text ≡ Some rest → text ≡ rest ++ tail
before-to tail text rest e =
    let n : ℕ = length text - length tail in
    let p = some-if (bytes_eq (drop n text) tail) (take n text) rest e in
    sym (take-append-drop n text)
    ∙ ap (λ t. take n text ++ t) ((bytes_eq-Decides (drop n text) tail).0 p.0)
    ∙ ap (λ t. t ++ tail) p.1

pub before-from : (tail text rest : List ℕ) → text ≡ rest ++ tail → before tail text ≡ Some rest
before-from tail text rest e =
    let n : ℕ = length text - length tail in
    let size = ap length e ∙ length-append rest tail in
    let len : n ≡ length rest = omega (arith, size) in
    let cut = ap (drop n) e ∙ ap (λ k. drop k (rest ++ tail)) len ∙ drop-append_seam rest tail in
    let kept = ap (take n) e ∙ ap (λ k. take k (rest ++ tail)) len ∙ take-append_seam rest tail in
    let same = (bytes_eq-Decides (drop n text) tail).1 cut in
    if-true (bytes_eq (drop n text) tail) (Some (take n text)) None same ∙ ap Some kept

pub none-where : {A : Type 0} (o : Option A) → ((x : A) → o ≡ Some x → ⊥) → o ≡ None
none-where None f = refl
none-where (Some x) f = absurd (f x refl)

-- ---- names

pub true_false : {b : Bool} → b ≡ true → b ≡ false → ⊥
true_false p q = cc

pub both : (a b : Bool) → (a && b) ≡ true → (a ≡ true) × (b ≡ true)
both true b e = (refl, e)
both false b e = cc

pub name_bytes : (name : List ℕ) → is_channel_name name ≡ true → list_all is_name_byte name ≡ true
name_bytes name e = (both _ (list_all is_name_byte name) (both _ _ e).1).1

-- no name ends in a text with a slash
no_slash_end : (name x tail : List ℕ) → is_channel_name name ≡ true → list_all is_name_byte tail ≡ false → name ≡ x ++ tail → ⊥
no_slash_end name x tail is slash e =
    let all = sym (ap (list_all is_name_byte) e ∙ list_all-append is_name_byte x tail) ∙ name_bytes name is in
    true_false ((both (list_all is_name_byte x) (list_all is_name_byte tail) all).1) slash

-- two numbers that are not one
differ : (a b : ℕ) → (a == b) ≡ false → a ≡ b → ⊥
differ a b other e = true_false ((unsigned_Decides a b).1 e) other

pub other_end : (x y : List ℕ) → y ++ codes "/end" ≡ x ++ codes "/blocks" → ⊥
other_end x y e =
    let whole : (y ++ codes "/en") ++ 100 ∷ [] ≡ (x ++ codes "/block") ++ 115 ∷ [] =
    append_assoc y (codes "/en") (100 ∷ []) ∙ e ∙ sym (append_assoc x (codes "/block") (115 ∷ [])) in
    differ 100 115 refl (same_from_push _ _ _ _ whole).1

-- ---- channels

channel-to : (rest : List ℕ) (r : Route) → channel_route rest ≡ Some r → IsNamed r × (codes "/channels/" ++ rest ≡ path_text r)
unfolding channel_route
channel-to rest r e = by (before (codes "/blocks") rest) refl (before (codes "/end") rest) refl e
  where
    by : (b : Option (List ℕ)) → before (codes "/blocks") rest ≡ b → (c : Option (List ℕ)) → before (codes "/end") rest ≡ c
        → under_channels b c rest ≡ Some r → IsNamed r × (codes "/channels/" ++ rest ≡ path_text r)
    by (Some name) eb c ec g =
        let n = named-to is_channel_name blocks name r g in
        let text = ap (λ t. codes "/channels/" ++ t) (before-to (codes "/blocks") rest name eb)
        ∙ sym (append_assoc (codes "/channels/") name (codes "/blocks")) in
        subst (λ r. IsNamed r × (codes "/channels/" ++ rest ≡ path_text r)) n.1 (n.0, text)
    by None eb (Some name) ec g =
        let n = named-to is_channel_name end name r g in
        let text = ap (λ t. codes "/channels/" ++ t) (before-to (codes "/end") rest name ec)
        ∙ sym (append_assoc (codes "/channels/") name (codes "/end")) in
        subst (λ r. IsNamed r × (codes "/channels/" ++ rest ≡ path_text r)) n.1 (n.0, text)
    by None eb None ec g =
        let n = named-to is_channel_name channel rest r g in
        subst (λ r. IsNamed r × (codes "/channels/" ++ rest ≡ path_text r)) n.1 (n.0, refl)

pub under : (rest : List ℕ) (b c : Option (List ℕ)) → before (codes "/blocks") rest ≡ b → before (codes "/end") rest ≡ c →
    channel_route rest ≡ under_channels b c rest
unfolding channel_route
under rest b c eb ec = ap (λ b. under_channels b (before (codes "/end") rest) rest) eb ∙ ap (λ c. under_channels b c rest) ec

blocks-from : (name : List ℕ) → is_channel_name name ≡ true → channel_route (name ++ codes "/blocks") ≡ Some (blocks name)
blocks-from name is =
    under (name ++ codes "/blocks") (Some name) _ (before-from (codes "/blocks") (name ++ codes "/blocks") name refl) refl
    ∙ named-from is_channel_name blocks name is

end-from : (name : List ℕ) → is_channel_name name ≡ true → channel_route (name ++ codes "/end") ≡ Some (end name)
end-from name is =
    let none = none-where (before (codes "/blocks") (name ++ codes "/end"))
    (λ x e. other_end x name (before-to (codes "/blocks") (name ++ codes "/end") x e)) in
    under (name ++ codes "/end") None (Some name) none (before-from (codes "/end") (name ++ codes "/end") name refl)
    ∙ named-from is_channel_name end name is

channel-from : (name : List ℕ) → is_channel_name name ≡ true → channel_route name ≡ Some (channel name)
channel-from name is =
    let no_blocks = none-where (before (codes "/blocks") name)
    (λ x e. no_slash_end name x (codes "/blocks") is refl (before-to (codes "/blocks") name x e)) in
    let no_end = none-where (before (codes "/end") name)
    (λ x e. no_slash_end name x (codes "/end") is refl (before-to (codes "/end") name x e)) in
    under name None None no_blocks no_end ∙ named-from is_channel_name channel name is

-- ---- indexes

pub index-to : (rest : List ℕ) (r : Route) → index_route rest ≡ Some r → IsNamed r × (codes "/indexes/" ++ rest ≡ path_text r)
unfolding index_route
index-to rest r e = by (before (codes "/events") rest) refl e
  where
    by : (b : Option (List ℕ)) → before (codes "/events") rest ≡ b → under_indexes b ≡ Some r → IsNamed r
        × (codes "/indexes/" ++ rest ≡ path_text r)
    by (Some name) eb g =
        let n = named-to is_segment events name r g in
        let text = ap (λ t. codes "/indexes/" ++ t) (before-to (codes "/events") rest name eb)
        ∙ sym (append_assoc (codes "/indexes/") name (codes "/events")) in
        subst (λ r. IsNamed r × (codes "/indexes/" ++ rest ≡ path_text r)) n.1 (n.0, text)
    by None eb g = cc

events-from : (name : List ℕ) → is_segment name ≡ true → index_route (name ++ codes "/events") ≡ Some (events name)
unfolding index_route
events-from name is = ap under_indexes (before-from (codes "/events") (name ++ codes "/events") name refl)
    ∙ named-from is_segment events name is

-- ---- paths

route-to : (path : List ℕ) (r : Route) → route_of path ≡ Some r → IsNamed r × (path ≡ path_text r)
unfolding route_of
route-to path r e = by (bytes_eq path (codes "/acks")) refl (bytes_eq path (codes "/buckets")) refl e
  where
    front : (b c : Option (List ℕ)) → behind (codes "/channels/") path ≡ b → behind (codes "/indexes/") path ≡ c → by_front b c ≡ Some r →
        IsNamed r × (path ≡ path_text r)
    front (Some rest) c eb ec g = let n = channel-to rest r g in (n.0, behind-to (codes "/channels/") path rest eb ∙ n.1)
    front None (Some rest) eb ec g = let n = index-to rest r g in (n.0, behind-to (codes "/indexes/") path rest ec ∙ n.1)
    front None None eb ec g = cc

    some_inj : (x y : Route) → Some x ≡ Some y → x ≡ y
    some_inj x y e = cc

    by : (a : Bool) → bytes_eq path (codes "/acks") ≡ a → (b : Bool) → bytes_eq path (codes "/buckets") ≡ b
        → cond a (Some acks) (cond b (Some buckets) (by_front (behind (codes "/channels/") path) (behind (codes "/indexes/") path))) ≡ Some
        r → IsNamed r × (path ≡ path_text r)
    by true ea b eb g = subst (λ r. IsNamed r × (path ≡ path_text r)) (some_inj acks r g) (tt, (bytes_eq-Decides path (codes "/acks")).0 ea)
    by false ea true eb g = subst (λ r. IsNamed r × (path ≡ path_text r)) (some_inj buckets r g) (
      tt,
      (bytes_eq-Decides path (codes "/buckets")).0 eb,
    )
    by false ea false eb g = front _ _ refl refl g

-- the route of a path that begins so
pub channels : (rest : List ℕ) → route_of (codes "/channels/" ++ rest) ≡ channel_route rest
unfolding route_of
channels rest =
    ap (λ b. by_front b (behind (codes "/indexes/") (codes "/channels/" ++ rest)))
    (behind-from (codes "/channels/") (codes "/channels/" ++ rest) rest refl)

pub indexes : (rest : List ℕ) → route_of (codes "/indexes/" ++ rest) ≡ index_route rest
unfolding route_of
indexes rest =
    let none = none-where (behind (codes "/channels/") (codes "/indexes/" ++ rest))
    (λ x e. other rest x (behind-to (codes "/channels/") (codes "/indexes/" ++ rest) x e)) in
    ap (λ b. by_front b (behind (codes "/indexes/") (codes "/indexes/" ++ rest))) none
    ∙ ap (λ c. by_front None c) (behind-from (codes "/indexes/") (codes "/indexes/" ++ rest) rest refl)
  where
    other : (rest x : List ℕ) → codes "/indexes/" ++ rest ≡ codes "/channels/" ++ x → ⊥
    other rest x e = differ 105 99 refl (ap (λ l. get_or l 1 0) e)

route-from : (r : Route) → IsNamed r → route_of (path_text r) ≡ Some r
unfolding route_of
route-from (channel name) is = channels name ∙ channel-from name is
route-from (blocks name) is = ap route_of (append_assoc (codes "/channels/") name (codes "/blocks")) ∙ channels (name ++ codes "/blocks")
    ∙ blocks-from name is
route-from (end name) is = ap route_of (append_assoc (codes "/channels/") name (codes "/end")) ∙ channels (name ++ codes "/end")
    ∙ end-from name is
route-from acks is = refl
route-from buckets is = refl
route-from (events name) is = ap route_of (append_assoc (codes "/indexes/") name (codes "/events")) ∙ indexes (name ++ codes "/events")
    ∙ events-from name is

pub routes-are-exact : RoutesAreExact
routes-are-exact path route = (λ e. route-to path route e, λ n. ap route_of n.1 ∙ route-from route n.0)

pub route_is_named : (path : List ℕ) (r : Route) → route_of path ≡ Some r → IsNamed r
route_is_named path r is = (route-to path r is).0
