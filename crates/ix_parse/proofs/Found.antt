-- What was read of bytes, part by part, is spelled at their front; and what was put behind bytes.
use Rattle.std.proofs.Common.{◌≡◌, ℕ, ◌+◌, Bool, true, List, ◌++◌, Some, refl, sym, subst, append_assoc}
use Rattle.std.specs.Option.{ForSome}
use Rattle.ix_lines.specs.Lines.{effective}
use Rattle.ix_lines.specs.declared.carry.LineParts.{LineParts}
use Rattle.ix_merge.specs.declared.carry.MergeParts.{MergeParts}
use Rattle.ix_coding.specs.Spelling.{byte, signed, flag, option}
use Rattle.ix_coding.specs.Reading.{option_at}
use Rattle.ix_parse.specs.declared.carry.Carry.{Carry}
use Rattle.ix_parse.specs.declared.carry.CarryRules.{CarryRules}
use Rattle.ix_parse.specs.Spelling.{line_bytes, runs_bytes, event_bytes, line_parts_bytes, merge_parts_bytes, spell}
use Rattle.ix_parse.specs.Reading.{line_parts_at, merge_parts_at, time_at, carry_at}

pub some_found : {A : Type 0} (one : A → List ℕ) (x : A) (some : Bool) (bytes r1 rest : List ℕ) → bytes ≡ flag some ++ r1 → some ≡ true →
    r1 ≡ one x ++ rest → bytes ≡ option one (Some x) ++ rest
unfolding option
some_found one x some bytes r1 rest h1 is h2 = rw (h1, is, h2) (sym (append_assoc (flag true) (one x) rest))

some_is : {A : Type 0} (x y : A) → Some x ≡ Some y → x ≡ y
some_is x y e = cc

pub for_some : {A : Type 0} (P : A → Type 0) (x : A) → P x → ForSome (Some x) P
for_some P x p = λ y e. subst P (some_is x y e) p

pub lines_found : (parts : LineParts) (bytes r1 r2 rest : List ℕ) → bytes ≡ option byte parts.before ++ r1 → r1 ≡ runs_bytes parts.pending
    ++ r2 → r2 ≡ option line_bytes parts.line ++ rest →
    bytes ≡ line_parts_bytes parts ++ rest
unfolding line_parts_bytes
lines_found parts bytes r1 r2 rest h1 h2 h3 = rw (h1, h2, h3) (simp append_assoc)

pub merge_found : (parts : MergeParts) (bytes r1 r2 rest : List ℕ) → bytes ≡ option event_bytes parts.event ++ r1 → r1 ≡ flag parts.held
    ++ r2 → r2 ≡ flag parts.forced ++ rest →
    bytes ≡ merge_parts_bytes parts ++ rest
unfolding merge_parts_bytes
merge_found parts bytes r1 r2 rest h1 h2 h3 = rw (h1, h2, h3) (simp append_assoc)

pub carry_found : (carry : Carry) (bytes r1 r2 rest : List ℕ) → bytes ≡ line_parts_bytes carry.lines ++ r1 →
    r1 ≡ merge_parts_bytes carry.merge ++ r2 → r2 ≡ option signed carry.latest ++ rest →
    bytes ≡ spell carry ++ rest
unfolding spell
carry_found carry bytes r1 r2 rest h1 h2 h3 = rw (h1, h2, h3) (simp append_assoc)

-- all parts were read
pub carry_given : (rules : CarryRules) (carry : Carry) (most : ℕ) (bytes r1 r2 rest : List ℕ) → most ≡ effective rules.truncate + 1 →
    line_parts_at most bytes ≡ Some (carry.lines, r1) →
    merge_parts_at rules.merging rules.max_lines r1 ≡ Some (carry.merge, r2) → option_at time_at r2 ≡ Some (carry.latest, rest) →
    carry_at rules bytes ≡ Some (carry, rest)
unfolding carry_at
carry_given rules carry most bytes r1 r2 rest same h1 h2 h3 = rw (← same, h1, h2, h3) refl

pub merge_put : (parts : MergeParts) (old a b new : List ℕ) → a ≡ old ++ option event_bytes parts.event → b ≡ a ++ flag parts.held → new ≡ b
    ++ flag parts.forced →
    new ≡ old ++ merge_parts_bytes parts
unfolding merge_parts_bytes
merge_put parts old a b new h1 h2 h3 = rw (h3, h2, h1) (simp append_assoc)
