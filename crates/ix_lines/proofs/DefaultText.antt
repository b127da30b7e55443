-- The text of the pattern of newlines, and its syntax.
use Rattle.std.proofs.Common.{◌≡◌, ℕ, zero, suc, ◌<◌, ◌≤◌, Bool, true, false, ◌||◌, ◌&&◌, nat_lt, nat_le, List, codes, Some, None}
use Rattle.std.proofs.Common.{unwrap_or, map, replicate, refl, sym, ◌∙◌, ap, arith}
use Rattle.std.specs.Prelude.{◌==◌, slice_get}
use Rattle.std.specs.List.{range_with_len}
use Rattle.std.proofs.lemmas.List.FromFn.{get_or-map-range_with_len, length-map-range_with_len}
use Rattle.std.proofs.lemmas.Option.{unwrap_or-slice_get, slice_get_past}
use Rattle.std.proofs.lemmas.Bool.{ltb-true, ltb-false}
use Rattle.std.proofs.lemmas.Bool.Decides.{nat_tests}
use Rattle.ix_pattern.specs.Sets.{none, bytes_where, with_range, folded, other_case}
use Rattle.ix_pattern.specs.Piece.{in_set}
use Rattle.ix_pattern.specs.Rows.{Shape, tree}
use Rattle.ix_pattern.specs.Syntax.{Syntax, done, leaf, paren, spelled, IsSpelledBy, tree_of, groups}
use Rattle.ix_pattern.specs.Tokens.{tokens_of, tokens, modifiers, modifier, token_at, opening, class, class_set, members, turn, member}
use Rattle.ix_pattern.specs.Tokens.{single, escape_at, range_end, behind_byte, member_from, count as count_token}
use Rattle.ix_pattern.specs.Reads.{IsReadAs}
use Rattle.ix_pattern.specs.declared.tokens.Leaf.TheVariants.{Bytes}
use Rattle.ix_pattern.specs.declared.tokens.Opening.TheVariants.{Capture}
use Rattle.ix_pattern.specs.declared.tokens.Times.TheVariants.{Unlimited}
use Rattle.ix_pattern.proofs.ReadsLemmas.{one-syntax}
use Rattle.ix_lines.specs.ByteRuns.{run_tree}
use Rattle.ix_lines.specs.Newlines.{is_newline}

-- the class `[\r\n]`
unfoldable pub newline_set : List Bool
newline_set = folded false (with_range 10 10 (with_range 13 13 none))

abbrev pub default_syntax : Syntax
default_syntax = paren Capture (leaf (Bytes newline_set) (Some (record { times = Unlimited 1; lazy = false })) done) None done

abbrev pub default_text : List ℕ
default_text = codes "([\\r\\n]+)"

default-tokens : tokens_of default_text ≡ Some (spelled default_syntax)
unfolding newline_set tokens_of tokens modifiers modifier token_at opening class class_set members turn member single escape_at range_end
    behind_byte member_from count_token
default-tokens = refl

pub default-spelled : IsSpelledBy default_syntax default_text
default-spelled = record { tokens = default-tokens; allowed = refl }

pub default-syntax : (s : Syntax) (p : Shape) → IsReadAs default_text s p → s ≡ default_syntax
default-syntax s p r = one-syntax default_text s default_syntax r.within.spelled default-spelled

pub default-tree : (s : Syntax) (p : Shape) → IsReadAs default_text s p → (tree p.rows ≡ run_tree newline_set) × (p.groups ≡ 1)
default-tree s p r =
    let e = default-syntax s p r in
    (r.pattern.tree_is ∙ ap tree_of e, r.pattern.groups_are ∙ ap groups e)

-- ---- the class

has-at : (test : ℕ → Bool) (b : ℕ) → b < 256 → in_set (bytes_where test) b ≡ test b
unfolding bytes_where
has-at test b h =
    unwrap_or-slice_get (map test (range_with_len 0 256)) b false ∙ get_or-map-range_with_len test 0 256 b b false h (omega arith)

has-past : (test : ℕ → Bool) (b : ℕ) → 256 ≤ b → in_set (bytes_where test) b ≡ false
unfolding bytes_where
has-past test b h =
    ap (λ o. unwrap_or o false) (slice_get_past (map test (range_with_len 0 256)) b (omega (arith, length-map-range_with_len test 0 256)))

none-at : (n b : ℕ) → unwrap_or (slice_get (replicate n false) b) false ≡ false
none-at zero b = refl
none-at (suc n) zero = refl
none-at (suc n) (suc b) = none-at n b

has-range : (low high : ℕ) (set : List Bool) (b : ℕ) → b < 256 →
    in_set (with_range low high set) b ≡ (in_set set b || (nat_le low b && nat_le b high))
unfolding with_range
has-range low high set b h = has-at (λ c. in_set set c || (nat_le low c && nat_le c high)) b h

has-folded : (set : List Bool) (b : ℕ) → b < 256 → in_set (folded false set) b ≡ in_set set b
unfolding folded
has-folded set b h = has-at (λ c. in_set set c || (false && in_set set (other_case c))) b h ∙ alone (in_set set b)
  where
    alone : (t : Bool) → (t || false) ≡ t
    alone true = refl
    alone false = refl

folded-past : (set : List Bool) (b : ℕ) → 256 ≤ b → in_set (folded false set) b ≡ false
unfolding folded
folded-past set b h = has-past (λ c. in_set set c || (false && in_set set (other_case c))) b h

has-none : (b : ℕ) → in_set none b ≡ false
unfolding none
has-none b = none-at 256 b

just : (n b : ℕ) → (nat_le n b && nat_le b n) ≡ (b == n)
just n b = grind (arith, nat_tests)

-- the class has the bytes 10 and 13
pub newline_set-has : (b : ℕ) → in_set newline_set b ≡ is_newline b
unfolding newline_set
newline_set-has b = by (nat_lt b 256) refl
  where
    turned : (x y : Bool) → ((false || x) || y) ≡ (y || x)
    turned true true = refl
    turned true false = refl
    turned false true = refl
    turned false false = refl

    none-past : 256 ≤ b → is_newline b ≡ false
    none-past h = grind (arith, nat_tests)

    by : (low : Bool) → nat_lt b 256 ≡ low → in_set (folded false (with_range 10 10 (with_range 13 13 none))) b ≡ is_newline b
    by true e =
        let h : b < 256 = ltb-true b 256 e in
        has-folded (with_range 10 10 (with_range 13 13 none)) b h
        ∙ has-range 10 10 (with_range 13 13 none) b h
        ∙ ap (λ t. t || (nat_le 10 b && nat_le b 10)) (has-range 13 13 none b h ∙ ap (λ t. t || (nat_le 13 b && nat_le b 13)) (has-none b))
        ∙ turned (nat_le 13 b && nat_le b 13) (nat_le 10 b && nat_le b 10)
        ∙ ap (λ t. t || (nat_le 13 b && nat_le b 13)) (just 10 b)
        ∙ ap (λ t. (b == 10) || t) (just 13 b)
    by false e =
        let h : 256 ≤ b = ltb-false b 256 e in
        folded-past (with_range 10 10 (with_range 13 13 none)) b h ∙ sym (none-past h)
