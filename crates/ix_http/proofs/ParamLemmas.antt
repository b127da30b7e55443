-- The parameter of a route that a path is spelled by is the path's name.
use Rattle.std.proofs.Common.{◌≡◌, ◌≢◌, ℕ, zero, suc, ◌+◌, ◌-◌, ◌<◌, ◌≤◌, List, [], ◌∷◌, ◌++◌, length, get_or, drop, take, Option, Some}
use Rattle.std.proofs.Common.{None, Bool, true, false, cond, ◌&&◌, refl, sym, ap, ap₂, ◌∙◌, arith, codes, append_assoc, append-nil, ◌==◌}
use Rattle.std.proofs.Common.{length-append, subst, ltb, leb, min, IsUtf8}
use Rattle.std.proofs.lemmas.Bool.Decides.{nat_tests}
use Rattle.std.proofs.lemmas.List.{take_all}
use Rattle.std.proofs.Math.Seq.{take-append_seam, drop-append_seam}
use Rattle.std.proofs.lemmas.Str.{IsUtf8-from_is_utf8, IsUtf8-drop, IsUtf8-take, IsCharBoundary-after_ascii, IsCharBoundary-at_seam}
use Rattle.matchit.specs.Rows.{param_token}
use Rattle.matchit.specs.Route.{scan, parse_route}
use Rattle.matchit.specs.Router.{RouteOf}
use Rattle.matchit.specs.Seek.{has_slash, slash, segment}
use Rattle.matchit.specs.Level.{IsText}
use Rattle.matchit.specs.Params.{walk, wild_from, wild_stop, part_of, next_at, named, AllText}
use Rattle.ix_http.specs.declared.router.Form.{Form}
use Rattle.ix_http.specs.declared.router.Form.TheVariants.{Channel, Blocks, End, Acks, Buckets, Events}
use Rattle.ix_http.proofs.SearchLemmas.{is_text, segment_cut}
use Rattle.ix_http.proofs.TableLemmas.{row, row_of}
use Rattle.ix_http.specs.Table.{text_of, IsSegment}

-- ---- where the parameter is

wild_at : (w t : List ℕ) (len token at : ℕ) → IsText w → at + length w ≤ len →
    wild_from (w ++ param_token ∷ t) len token at ≡ (token + length w, at + length w)
wild_at [] t len token at text fits = ap₂ (λ a b. (a, b)) (omega arith) (omega arith)
wild_at (x ∷ w) t len token at text fits =
    let byte : ltb x param_token ≡ true = let l = text.0 in grind (arith, nat_tests) in
    let next : next_at len at ≡ at + 1 = grind (arith, nat_tests) in
    rw (byte, next) (wild_at w t len (token + 1) (at + 1) text.1 (omega arith)
    ∙ ap₂ (λ a b. (a, b)) (omega arith) (omega arith))

part_is : (bytes : List ℕ) (front name end : List ℕ) → bytes ≡ front ++ name ++ end →
    part_of bytes (length front) (length front + length name) ≡ name
part_is bytes front name end is =
    let size = ap length is ∙ length-append (front ++ name) end ∙ ap (λ n. n + length end) (length-append front name) in
    let low : leb (length front) (length front + length name) ≡ true = grind (arith, nat_tests) in
    let high : leb (length front + length name) (length bytes) ≡ true = grind (arith, nat_tests, size) in
    let many : length front + length name - length front ≡ length name = omega arith in
    let behind = ap (drop (length front)) (is ∙ append_assoc front name end) ∙ drop-append_seam front (name ++ end) in
    rw (low, high, many, behind) (take-append_seam name end)

and_false : (a : Bool) → (a && false) ≡ false
and_false true = refl
and_false false = refl

last_there : (front rest : List ℕ) (last : ℕ) → get_or (front ++ last ∷ rest) (length front) 0 ≡ last
last_there [] rest last = refl
last_there (x ∷ front) rest last = last_there front rest last

-- ---- the forms with a name

abbrev pub OneName : List ℕ → List (List ℕ × List ℕ)
OneName name = (codes "name", name) ∷ []

size_of : (front name end : List ℕ) → length (front ++ name ++ end) ≡ length front + length name + length end
size_of front name end = length-append (front ++ name) end ∙ ap (λ n. n + length end) (length-append front name)

wild_first : (w t path : List ℕ) → IsText w → length w ≤ length path →
    wild_from (w ++ param_token ∷ t) (length path) 0 0 ≡ (length w, length w)
wild_first w t path text fits = wild_at w t (length path) 0 0 text (omega arith) ∙ ap₂ (λ a b. (a, b)) (omega arith) (omega arith)

-- where a parameter's part of the path stops
stop_last : (w path : List ℕ) → wild_stop (w ++ param_token ∷ []) (length w) path (length w) ≡ length path
stop_last w path =
    let len = length-append w (param_token ∷ []) in
    let last : ltb (length w + 1) (length (w ++ param_token ∷ [])) ≡ false = grind (arith, nat_tests, len) in
    rw (last, and_false (ltb (length w) (length (w ++ param_token ∷ [])) && (get_or (w ++ param_token ∷ []) (length w) 0 == param_token)))
    refl

at_seam : (w t : List ℕ) → get_or (w ++ param_token ∷ t) (length w) 0 ≡ param_token
at_seam [] t = refl
at_seam (x ∷ w) t = at_seam w t

drop_seam : (w t : List ℕ) → drop (length w + 1) (w ++ param_token ∷ t) ≡ t
drop_seam w t =
    ap (λ n. drop n (w ++ param_token ∷ t)) (sym (length-append w (param_token ∷ [])))
    ∙ ap (drop (length (w ++ param_token ∷ []))) (sym (append_assoc w (param_token ∷ []) t))
    ∙ drop-append_seam (w ++ param_token ∷ []) t

stop_front : (w t path : List ℕ) → wild_stop (w ++ param_token ∷ slash
    ∷ t) (length w) path (length w) ≡ length w + length (segment (drop (length w) path)) - 1
stop_front w t path =
    let len = length-append w (param_token ∷ slash ∷ t) in
    let first : ltb (length w) (length (w ++ param_token ∷ slash ∷ t)) ≡ true = grind (arith, nat_tests, len) in
    let more : ltb (length w + 1) (length (w ++ param_token ∷ slash ∷ t)) ≡ true = grind (arith, nat_tests, len) in
    rw (first, more, at_seam w (slash ∷ t), drop_seam w (slash ∷ t)) refl

-- the one name of a route, and the part of the path from the parameter to a stop
one_name : (pattern text path name : List ℕ) (span : ℕ × ℕ) (at stop : ℕ) → wild_from pattern (length path) 0 0 ≡ (at, at) →
    wild_stop pattern at path at ≡ stop
    → part_of text span.0 span.1 ≡ codes "name" → part_of path at stop ≡ name → walk pattern text path (span ∷ []) 0 0 ≡ OneName name
one_name pattern text path name span at stop found stops key part =
    ap (λ (a : ℕ × ℕ). (part_of text span.0 span.1, part_of path a.1 (wild_stop pattern a.0 path a.1)) ∷ []) found
    ∙ ap₂ (λ k e. (k, part_of path at e) ∷ []) key stops
    ∙ ap (λ v. (codes "name", v) ∷ []) part

-- a route whose parameter ends it
walk_last : (w path name text : List ℕ) (span : ℕ × ℕ) → IsText w → path ≡ w ++ name → part_of text span.0 span.1 ≡ codes "name"
    → walk (w ++ param_token ∷ []) text path (span ∷ []) 0 0 ≡ OneName name
walk_last w path name text span bytes is key =
    let size = ap length is ∙ length-append w name in
    one_name (w ++ param_token ∷ []) text path name span (length w) (length w + length name)
    (wild_first w [] path bytes (omega (arith, size))) (stop_last w path
    ∙ size) key (part_is path w name [] (is ∙ sym (append-nil (w ++ name))))

-- a route whose parameter stands before a slash
walk_front : (w path name tail text : List ℕ) (span : ℕ × ℕ) → IsText w → has_slash name ≡ false → path ≡ w ++ name ++ slash ∷ tail →
    part_of text span.0 span.1 ≡ codes "name"
    → walk (w ++ param_token ∷ slash ∷ tail) text path (span ∷ []) 0 0 ≡ OneName name
walk_front w path name tail text span bytes free is key =
    let size = ap length is ∙ size_of w name (slash ∷ tail) in
    let rest = ap (drop (length w)) (is ∙ append_assoc w name (slash ∷ tail)) ∙ drop-append_seam w (name ++ slash ∷ tail) in
    let seg = ap length (ap segment rest ∙ segment_cut name tail free) ∙ length-append name (slash ∷ []) in
    let stop : length w + length (segment (drop (length w) path)) - 1 ≡ length w + length name = omega (arith, seg) in
    one_name (w ++ param_token ∷ slash ∷ tail) text path name span (length w) (length w + length name)
    (wild_first w (slash ∷ tail) path bytes (omega (arith, size))) (stop_front w tail path
    ∙ stop) key (part_is path w name (slash ∷ tail) is)

-- ---- what a route's parameter is called, and what it takes

abbrev pub walked : Form → List ℕ → List (List ℕ × List ℕ)
walked form path = walk (row form).pattern (row form).text path (row form).names 0 0

pub walked_channel : (path name : List ℕ) → path ≡ text_of Channel name → walked Channel path ≡ OneName name
unfolding row row_of scan
walked_channel path name is = walk_last (codes "/channels/") path name (codes "/channels/{name}") (
  11,
  15,
) (is_text (codes "/channels/") refl) is refl

pub walked_blocks : (path name : List ℕ) → IsSegment name → path ≡ text_of Blocks name → walked Blocks path ≡ OneName name
unfolding row row_of scan
walked_blocks path name t is = walk_front (codes "/channels/") path name (codes "blocks") (codes "/channels/{name}/blocks") (
  11,
  15,
) (is_text (codes "/channels/") refl) t.1 is refl

pub walked_end : (path name : List ℕ) → IsSegment name → path ≡ text_of End name → walked End path ≡ OneName name
unfolding row row_of scan
walked_end path name t is = walk_front (codes "/channels/") path name (codes "end") (codes "/channels/{name}/end") (
  11,
  15,
) (is_text (codes "/channels/") refl) t.1 is refl

pub walked_events : (path name : List ℕ) → IsSegment name → path ≡ text_of Events name → walked Events path ≡ OneName name
unfolding row row_of scan
walked_events path name t is = walk_front (codes "/indexes/") path name (codes "events") (codes "/indexes/{name}/events") (
  10,
  14,
) (is_text (codes "/indexes/") refl) t.1 is refl

-- ---- the name of a path that is UTF-8 is

pub text_behind : (front rest : List ℕ) (last : ℕ) → last < 128 → IsUtf8 ((front ++ last ∷ []) ++ rest) → IsUtf8 rest
text_behind front rest last ascii utf8 =
    let bytes : List ℕ = (front ++ last ∷ []) ++ rest in
    let size = length-append (front ++ last ∷ []) rest in
    let size2 = length-append front (last ∷ []) in
    let byte : get_or bytes (length front) 0 ≡ last = ap (λ l. get_or l (length front) 0) (append_assoc front (last ∷ []) rest)
    ∙ last_at front rest last in
    let edge = IsCharBoundary-after_ascii bytes (length front) utf8 (omega (arith, size, size2)) (subst (λ b. b < 128) (sym byte) ascii) in
    let cut = ap (λ n. drop n bytes) (sym size2) ∙ drop-append_seam (front ++ last ∷ []) rest in
    subst IsUtf8 cut (IsUtf8-drop bytes (length front + 1) utf8 edge)
  where
    last_at : (front rest : List ℕ) (last : ℕ) → get_or (front ++ last ∷ rest) (length front) 0 ≡ last
    last_at front rest last = last_there front rest last

pub text_before : (name tail : List ℕ) → IsUtf8 tail → IsUtf8 (name ++ tail) → IsUtf8 name
text_before name tail end utf8 =
    subst IsUtf8 (take-append_seam name tail) (IsUtf8-take (name
    ++ tail) (length name) utf8 (IsCharBoundary-at_seam (name ++ tail) name tail refl end))
