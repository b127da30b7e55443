-- The pattern of breaks that channels have where none is set.
use Rattle.std.proofs.Common.{◌≡◌, ℕ, ◌<◌, ◌≤◌, Bool, false, List, [], ◌∷◌, refl, arith, codes}
use Rattle.std.specs.Prelude.{Option, Some, None}
use Rattle.ix_pattern.specs.Piece.{least_length}
use Rattle.ix_pattern.specs.Rows.{Rows, Shape, tree}
use Rattle.ix_pattern.specs.Sets.{none, with_range, folded}
use Rattle.ix_pattern.specs.Syntax.{Syntax, done, leaf, paren, tree_of, repeats_empty, spelled}
use Rattle.ix_pattern.specs.Tokens.{number, closing, upper_limit, limits_from, limits, count, hex_byte, escape_at, single, range_end}
use Rattle.ix_pattern.specs.Tokens.{range, behind_byte, member_from, member, turn, members, class_set, leaf_token, class, special_opening}
use Rattle.ix_pattern.specs.Tokens.{opening, brace_from, brace, escaped, token_at, token_front, tokens, modifier, modifiers, tokens_of}
use Rattle.ix_pattern.specs.declared.pattern.Node.TheVariants as node
use Rattle.ix_pattern.specs.declared.tokens.Leaf.TheVariants.{Bytes}
use Rattle.ix_pattern.specs.declared.tokens.Opening.TheVariants.{Capture}
use Rattle.ix_pattern.specs.declared.tokens.Times.TheVariants.{Unlimited}
use Rattle.ix_props.specs.Settings.{IsBreakerOf}
use Rattle.ix_props.specs.Values.{IsBreakerShape}
use Rattle.ix_props.specs.declared.values.Value.{Value}
use Rattle.ix_props.specs.declared.values.Value.TheVariants as value

abbrev text : List ℕ
text = codes "([\\r\\n]+)"

-- carriage returns and newlines
abbrev set : List Bool
set = folded false (with_range 10 10 (with_range 13 13 none))

abbrev syntax_of : Syntax
syntax_of = paren Capture (leaf (Bytes set) (Some (record { times = Unlimited 1; lazy = false })) done) None done

abbrev rows : Rows
rows = (node.Bytes, set) ∷ (node.Count 0 1 None false, []) ∷ (node.Group 1 1, []) ∷ []

abbrev shape : Shape
shape = record { rows = rows; groups = 1; weight = 6 }

spells : tokens_of text ≡ Some (spelled syntax_of)
unfolding number closing upper_limit limits_from limits count hex_byte escape_at single range_end range behind_byte member_from member turn
    members class_set leaf_token class special_opening opening brace_from brace escaped token_at token_front tokens modifier modifiers
    tokens_of
spells = refl

never_empty : repeats_empty (tree_of syntax_of) ≡ false
unfolding least_length
never_empty = refl

takes_one : least_length (tree rows) ≡ 1
unfolding least_length
takes_one = refl

is_breaker : IsBreakerShape text shape
is_breaker = record {
  is_read = record {
    syntax = syntax_of;
    is_read = record {
      within = record {
        short = (let short : 9 ≤ 4096 = omega arith in short);
        spelled = record { tokens = spells; allowed = refl };
        small = refl;
      };
      sound = never_empty;
      pattern = record { tree_is = refl; groups_are = refl; weight_is = refl };
    };
  };
  groups = (let some : 0 < 1 = omega arith in some);
  takes = omega (arith, takes_one);
}

-- the one that is set, or else this
pub breaker_exists : (v : Option Value) → (breaker : Shape) × IsBreakerOf v breaker
breaker_exists (Some (value.Pattern p)) = (p, refl)
breaker_exists (Some value.Nothing) = (shape, is_breaker)
breaker_exists (Some (value.Source rule)) = (shape, is_breaker)
breaker_exists (Some (value.Host rule)) = (shape, is_breaker)
breaker_exists (Some (value.Boolean b)) = (shape, is_breaker)
breaker_exists (Some (value.Count n)) = (shape, is_breaker)
breaker_exists (Some (value.Number n)) = (shape, is_breaker)
breaker_exists (Some (value.Format format)) = (shape, is_breaker)
breaker_exists (Some (value.Zone zone)) = (shape, is_breaker)
breaker_exists (Some (value.Change sed)) = (shape, is_breaker)
breaker_exists (Some (value.Transforms ts)) = (shape, is_breaker)
breaker_exists (Some (value.Name name)) = (shape, is_breaker)
breaker_exists None = (shape, is_breaker)
