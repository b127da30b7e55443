-- What the router finds is the route of the path.
use Rattle.std.proofs.Common.{rules, ◌≡◌, ◌≢◌, ◌⊎◌, inl, inr, ℕ, suc, ◌+◌, ◌-◌, ◌<◌, ◌≤◌, List, [], ◌∷◌, ◌++◌, length, get_or, take, drop}
use Rattle.std.proofs.Common.{Option, Some, None, Bool, true, false, cond, refl, sym, ap, ap₂, ◌∙◌, arith, codes, append_assoc, subst}
use Rattle.std.proofs.Common.{IsUtf8, ◌&&◌, ◌||◌, Bor}
use Rattle.std.specs.Prelude.{◌==◌, not, nat_le, nat_lt, option_map, unwrap_or, MatchOption}
use Rattle.std.proofs.lemmas.Bool.Decides.{nat_tests}
use Rattle.std.specs.List.{list_all, list_any, position_or_len}
use Rattle.std.proofs.lemmas.Str.{IsCharBoundary-before_ascii, IsCharBoundary-end}
use Rattle.std.specs.Str.{IsCharBoundary}
use Rattle.matchit.specs.Router.{RouteOf}
use Rattle.matchit.specs.Route.{scan}
use Rattle.matchit.specs.Seek.{first, has_slash, slash}
use Rattle.matchit.specs.Level.{IsText}
use Rattle.matchit.specs.Params.{walk, named, AllText}
use Rattle.ix_http.specs.declared.router.Form.{Form}
use Rattle.ix_http.specs.declared.router.Form.TheVariants as form
use Rattle.ix_http.specs.Routes.{Route, channel, blocks, end, acks, buckets, events, is_name_byte, is_channel_name, is_segment, behind}
use Rattle.ix_http.specs.Routes.{before, route_of, path_text, IsNamed}
use Rattle.ix_http.specs.Table.{table, text_of, IsSegment, IsNameOf, IsFound, named_route}
use Rattle.ix_http.proofs.RouteLemmas.{routes-are-exact, name_bytes, none-where, true_false, both, under, before-from, before-to}
use Rattle.ix_http.proofs.RouteLemmas.{other_end, channels}
use Rattle.ix_http.proofs.SearchLemmas.{text_behind, text_front}
use Rattle.ix_http.proofs.TableLemmas.{row, row_of, Spelled, found_to, found_from}
use Rattle.ix_http.proofs.ParamLemmas.{OneName, walked, walked_channel, walked_blocks, walked_end, walked_events}
use Rattle.ix_http.proofs.ParamLemmas.{text_behind as utf8_behind, text_before as utf8_before}

-- each byte fits
pub is_bytes : (bs : List ℕ) → ((i : ℕ) → get_or bs i 0 < 256) → IsText bs
is_bytes [] f = tt
is_bytes (b ∷ bs) f = (f 0, is_bytes bs (λ i. f (suc i)))

-- ---- names

no_slash : (name : List ℕ) → list_any (λ b. b == 47) name ≡ has_slash name
no_slash [] = refl
no_slash (b ∷ name) = elim (b == 47) as (λ v. ◌||◌ v (list_any (λ b. b == 47) name) ≡ cond v true (has_slash name))
    [ true ↦ refl | false ↦ no_slash name ]

not_slash : (b : ℕ) → is_name_byte b ≡ true → (b == slash) ≡ false
not_slash b e = by (b == slash) refl
  where
    by : (v : Bool) → (b == slash) ≡ v → (b == slash) ≡ false
    by true q = let same : b ≡ slash = grind (arith, nat_tests) in absurd (true_false (sym (ap is_name_byte same) ∙ e) refl)
    by false q = q

names_free : (name : List ℕ) → list_all is_name_byte name ≡ true → has_slash name ≡ false
names_free [] e = refl
names_free (b ∷ name) e =
    let p = both (is_name_byte b) (list_all is_name_byte name) e in
    rw (not_slash b p.0) (names_free name p.1)

long : (name : List ℕ) → nat_le 1 (length name) ≡ true → 0 < length name
long name e = grind (arith, nat_tests)

not_true : (b : Bool) → not b ≡ true → b ≡ false
not_true true e = cc
not_true false e = refl

pub channel_taken : (name : List ℕ) → is_channel_name name ≡ true → IsSegment name
channel_taken name e = (long name (both _ _ e).0, names_free name (name_bytes name e))

pub segment_taken : (name : List ℕ) → is_segment name ≡ true → IsSegment name
segment_taken name e = let p = both _ _ e in (long name p.0, sym (no_slash name) ∙ not_true _ p.1)

-- ---- what the parameter of a route that is found is

abbrev pub pairs : Form → List ℕ → List (List ℕ × List ℕ)
pairs form.Channel name = OneName name
pairs form.Blocks name = OneName name
pairs form.End name = OneName name
pairs form.Acks name = []
pairs form.Buckets name = []
pairs form.Events name = OneName name

walked_is : (f : Form) (path name : List ℕ) → IsNameOf f name → path ≡ text_of f name → walked f path ≡ pairs f name
unfolding row row_of scan
walked_is form.Channel path name t is = walked_channel path name is
walked_is form.Blocks path name t is = walked_blocks path name t is
walked_is form.End path name t is = walked_end path name t is
walked_is form.Acks path name t is = refl
walked_is form.Buckets path name t is = refl
walked_is form.Events path name t is = walked_events path name t is

name_text : IsUtf8 (codes "name")
name_text = search rules

behind_channels : (rest : List ℕ) → IsUtf8 (codes "/channels/" ++ rest) → IsUtf8 rest
behind_channels rest utf8 = utf8_behind (codes "/channels") rest 47 (omega arith) utf8

behind_indexes : (rest : List ℕ) → IsUtf8 (codes "/indexes/" ++ rest) → IsUtf8 rest
behind_indexes rest utf8 = utf8_behind (codes "/indexes") rest 47 (omega arith) utf8

one_text : (name : List ℕ) → IsUtf8 name → AllText (OneName name)
one_text name utf8 = (name_text, utf8, tt)

texts_are : (f : Form) (path name : List ℕ) → IsUtf8 path → path ≡ text_of f name → AllText (pairs f name)
texts_are form.Channel path name utf8 is = one_text name (behind_channels name (subst IsUtf8 is utf8))
texts_are form.Blocks path name utf8 is =
    one_text name (utf8_before name (codes "/blocks") (search rules)
    (behind_channels (name ++ codes "/blocks") (subst IsUtf8 (is ∙ append_assoc (codes "/channels/") name (codes "/blocks")) utf8)))
texts_are form.End path name utf8 is =
    one_text name (utf8_before name (codes "/end") (search rules)
    (behind_channels (name ++ codes "/end") (subst IsUtf8 (is ∙ append_assoc (codes "/channels/") name (codes "/end")) utf8)))
texts_are form.Acks path name utf8 is = tt
texts_are form.Buckets path name utf8 is = tt
texts_are form.Events path name utf8 is =
    one_text name (utf8_before name (codes "/events") (search rules)
    (behind_indexes (name ++ codes "/events") (subst IsUtf8 (is ∙ append_assoc (codes "/indexes/") name (codes "/events")) utf8)))

-- what `get` gives, and no text where it gives none
named_is : (f : Form) (name : List ℕ) → IsNameOf f name → unwrap_or (named (codes "name") (pairs f name)) [] ≡ name
named_is form.Channel name t = refl
named_is form.Blocks name t = refl
named_is form.End name t = refl
named_is form.Acks name t = sym t
named_is form.Buckets name t = sym t
named_is form.Events name t = refl

value_is : (f : Form) → (row f).value ≡ f
unfolding row row_of scan
value_is form.Channel = refl
value_is form.Blocks = refl
value_is form.End = refl
value_is form.Acks = refl
value_is form.Buckets = refl
value_is form.Events = refl

-- what is found by a kept route
abbrev pub parts : RouteOf Form → List ℕ → List (List ℕ × List ℕ)
parts k path = walk k.pattern k.text path k.names 0 0

pub parts_text : (path : List ℕ) (k : RouteOf Form) → IsUtf8 path → Spelled path k → AllText (parts k path)
parts_text path k utf8 s =
    subst AllText (sym (ap (λ k. parts k path) s.kept ∙ walked_is s.form path s.name s.taken s.is)) (texts_are s.form path s.name utf8 s.is)

pub found_is : (path : List ℕ) (k : RouteOf Form) → Spelled path k →
    IsFound path (Some (k.value, unwrap_or (named (codes "name") (parts k path)) []))
found_is path k s =
    let value = ap (λ (k : RouteOf Form). k.value) s.kept ∙ value_is s.form in
    let name = ap (λ l. unwrap_or (named (codes "name") l) []) (ap (λ k. parts k path) s.kept ∙ walked_is s.form path s.name s.taken s.is)
    ∙ named_is s.form s.name s.taken in
    subst (λ found. IsFound path (Some found)) (sym (ap₂ (λ a b. (a, b)) value name)) (s.taken, s.is)

name_bytes_of : (f : Form) (name : List ℕ) → IsNameOf f name → IsText (text_of f name) → IsText name
name_bytes_of form.Channel name t text = text_behind (codes "/channels/") name text
name_bytes_of form.Blocks name t text = text_behind (codes "/channels/") name
    (text_front (codes "/channels/" ++ name) (codes "/blocks") text)
name_bytes_of form.End name t text = text_behind (codes "/channels/") name (text_front (codes "/channels/" ++ name) (codes "/end") text)
name_bytes_of form.Acks name t text = subst IsText (sym t) tt
name_bytes_of form.Buckets name t text = subst IsText (sym t) tt
name_bytes_of form.Events name t text = text_behind (codes "/indexes/") name (text_front (codes "/indexes/" ++ name) (codes "/events") text)

pub none_is : (path : List ℕ) → IsText path → first table path ≡ None → IsFound path None
none_is path text e f name t is =
    let found = found_from f name (name_bytes_of f name t (subst IsText is text)) t in
    some_none (sym (ap (first table) is ∙ found) ∙ e)
  where
    some_none : {K : Type 0} {k : K} → Some k ≡ None → ⊥
    some_none q = cc

pub shown_name : (o : Option (Bor (List ℕ))) (d : Bor (List ℕ)) (l : Option (List ℕ)) → MatchOption o (l ≡ None) (λ v. l ≡ Some v.now) →
    d.now ≡ []
    → (unwrap_or o d).now ≡ unwrap_or l []
shown_name None d l e n = n ∙ sym (ap (λ l. unwrap_or l []) e)
shown_name (Some v) d l e n = sym (ap (λ l. unwrap_or l []) e)

-- ---- the route of what is found

slash_within : (x t : List ℕ) → has_slash (x ++ slash ∷ t) ≡ true
slash_within [] t = refl
slash_within (b ∷ x) t = elim (b == slash) as (λ v. cond v true (has_slash (x ++ slash ∷ t)) ≡ true)
    [ true ↦ refl | false ↦ slash_within x t ]

no_end : (name t : List ℕ) → has_slash name ≡ false → before (slash ∷ t) name ≡ None
no_end name t free =
    none-where (before (slash ∷ t) name) (λ x e. true_false (ap has_slash (before-to (slash ∷ t) name x e) ∙ slash_within x t) free)

channel_is : (name : List ℕ) → has_slash name ≡ false → route_of (codes "/channels/" ++ name) ≡ named_route form.Channel name
channel_is name free = channels name ∙ under name None None (no_end name (codes "blocks") free) (no_end name (codes "end") free)

blocks_is : (name : List ℕ) → route_of (codes "/channels/" ++ name ++ codes "/blocks") ≡ named_route form.Blocks name
blocks_is name =
    ap route_of (append_assoc (codes "/channels/") name (codes "/blocks")) ∙ channels (name ++ codes "/blocks")
    ∙ under (name ++ codes "/blocks") (Some name) _ (before-from (codes "/blocks") (name ++ codes "/blocks") name refl) refl

end_is : (name : List ℕ) → route_of (codes "/channels/" ++ name ++ codes "/end") ≡ named_route form.End name
end_is name =
    let none = none-where (before (codes "/blocks") (name ++ codes "/end"))
    (λ x e. other_end x name (before-to (codes "/blocks") (name ++ codes "/end") x e)) in
    ap route_of (append_assoc (codes "/channels/") name (codes "/end")) ∙ channels (name ++ codes "/end")
    ∙ under (name ++ codes "/end") None (Some name) none (before-from (codes "/end") (name ++ codes "/end") name refl)

segment_is : (name : List ℕ) → IsSegment name → is_segment name ≡ true
segment_is name t =
    let size : nat_le 1 (length name) ≡ true = let l = t.0 in grind (arith, nat_tests) in
    rw (size, no_slash name, t.1) refl

events_is : (name : List ℕ) → IsSegment name → route_of (codes "/indexes/" ++ name ++ codes "/events") ≡ named_route form.Events name
events_is name t = (routes-are-exact (codes "/indexes/" ++ name ++ codes "/events") (events name)).1 (segment_is name t, refl)

spelled_route : (f : Form) (name : List ℕ) → IsNameOf f name → route_of (text_of f name) ≡ named_route f name
unfolding route_of
spelled_route form.Channel name t = channel_is name t.1
spelled_route form.Blocks name t = blocks_is name
spelled_route form.End name t = end_is name
spelled_route form.Acks name t = refl
spelled_route form.Buckets name t = refl
spelled_route form.Events name t = events_is name t

pub route_found : (path name : List ℕ) (f : Form) → IsFound path (Some (f, name)) → named_route f name ≡ route_of path
route_found path name f s = sym (ap route_of s.1 ∙ spelled_route f name s.0)

pub route_not_found : (path : List ℕ) → IsFound path None → None ≡ route_of path
route_not_found path none = sym (none-where (route_of path) (λ r e. let n = (routes-are-exact path r).0 e in by r n.0 n.1))
  where
    by : (r : Route) → IsNamed r → path ≡ path_text r → ⊥
    by (channel name) n is = none form.Channel name (channel_taken name n) is
    by (blocks name) n is = none form.Blocks name (channel_taken name n) is
    by (end name) n is = none form.End name (channel_taken name n) is
    by acks n is = none form.Acks [] refl is
    by buckets n is = none form.Buckets [] refl is
    by (events name) n is = none form.Events name (segment_taken name n) is

-- ---- the path of a target ends at a character

-- the byte at the first place that passes
passing : (bs : List ℕ) → position_or_len (λ b. b == 63) bs < length bs → get_or bs (position_or_len (λ b. b == 63) bs) 0 < 128
passing [] l = elim l [ ]
passing (b ∷ bs) l = by (b == 63) refl l (passing bs)
  where
    by : (v : Bool) → (b == 63) ≡ v → position_or_len (λ b. b == 63) (b ∷ bs) < length (b ∷ bs)
        → (position_or_len (λ b. b == 63) bs < length bs → get_or bs (position_or_len (λ b. b == 63) bs) 0 < 128)
        → get_or (b ∷ bs) (position_or_len (λ b. b == 63) (b ∷ bs)) 0 < 128
    by true q l ih =
        let same : b ≡ 63 = grind (arith, nat_tests) in
        rw q (omega arith)
    by false q l ih =
        let at : position_or_len (λ b. b == 63) (b ∷ bs) ≡ suc (position_or_len (λ b. b == 63) bs) = rw q (omega arith) in
        rw at (ih (omega (arith, at, l)))

pub mark_boundary : (bs : List ℕ) (n : ℕ) → n ≡ position_or_len (λ b. b == 63) bs → n ≤ length bs → IsCharBoundary bs n
mark_boundary bs n is within = by (nat_lt n (length bs)) refl
  where
    by : (v : Bool) → nat_lt n (length bs) ≡ v → IsCharBoundary bs n
    by true e =
        let l : n < length bs = grind (arith, nat_tests) in
        IsCharBoundary-before_ascii bs n l (subst (λ k. get_or bs k 0 < 128) (sym is) (passing bs (subst (λ k. k < length bs) is l)))
    by false e =
        let at : n ≡ length bs = grind (arith, nat_tests) in
        subst (IsCharBoundary bs) (sym at) (IsCharBoundary-end bs)
