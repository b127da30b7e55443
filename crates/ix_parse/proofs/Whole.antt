-- A carry that is spelled is read again, and so bytes are at most one carry.
use Rattle.std.proofs.Common.{◌≡◌, ℕ, ◌+◌, ◌≤◌, Bool, true, false, List, [], ◌++◌, Some, refl, sym, ap, ◌∙◌, append_assoc, arith}
use Rattle.std.specs.Prelude.{◌==◌, ◌||◌, nat_lt, if◌then◌else◌}
use Rattle.std.proofs.lemmas.List.{append-nil}
use Rattle.ix_coding.specs.Spelling.{signed, option}
use Rattle.ix_lines.specs.Lines.{effective}
use Rattle.ix_parse.specs.declared.carry.Carry.{Carry}
use Rattle.ix_parse.specs.declared.carry.CarryRules.{CarryRules}
use Rattle.ix_parse.specs.declared.carry.ResumeFault.{ResumeFault}
use Rattle.ix_parse.specs.declared.carry.ResumeFault.TheVariants as faults
use Rattle.ix_parse.specs.Spelling.{line_parts_bytes, merge_parts_bytes, spell}
use Rattle.ix_parse.specs.Form.{HasForm, IsCarryOf}
use Rattle.ix_parse.specs.Reading.{Fails, carry_at}
use Rattle.ix_parse.proofs.Again.{line_parts_again, merge_parts_again, latest_again}

effective_small : (truncate : ℕ) → effective truncate ≤ 1048576
effective_small truncate = by ((truncate == 0) || nat_lt 1048576 truncate) refl
  where
    by : (b : Bool) → ((truncate == 0) || nat_lt 1048576 truncate) ≡ b → (if b then 1048576 else truncate) ≤ 1048576
    by true e = omega arith
    by false e = grind arith

longest_small : (truncate : ℕ) → effective truncate + 1 ≤ 1048577
longest_small truncate = omega (arith, effective_small truncate)

pub carry_again : (rules : CarryRules) (carry : Carry) (rest : List ℕ) → HasForm rules carry →
    carry_at rules (spell carry ++ rest) ≡ Some (carry, rest)
unfolding carry_at spell
carry_again rules carry rest h =
    let split : spell carry ++ rest ≡ line_parts_bytes carry.lines
    ++ (merge_parts_bytes carry.merge ++ (option signed carry.latest ++ rest)) = simp append_assoc in
    ap (carry_at rules) split
    ∙ rw (
      line_parts_again (effective rules.truncate + 1) (longest_small rules.truncate) carry.lines (merge_parts_bytes carry.merge
          ++ (option signed carry.latest ++ rest)) h.pending h.line,
      merge_parts_again rules.merging rules.max_lines carry.merge (option signed carry.latest ++ rest) h.merge h.event,
      latest_again carry.latest rest h.latest,
    ) refl

some_is : {A : Type 0} (x y : A) → Some x ≡ Some y → x ≡ y
some_is x y e = cc

abbrev pair : Carry → List ℕ → Carry × List ℕ
pair carry rest = (carry, rest)

pub one_carry : (rules : CarryRules) (a b : Carry) (x y : List ℕ) → HasForm rules a → HasForm rules b → spell a ++ x ≡ spell b ++ y →
    (a ≡ b) × (x ≡ y)
one_carry rules a b x y has_a has_b is =
    let e = some_is (pair a x) (pair b y) (sym (carry_again rules a x has_a) ∙ ap (carry_at rules) is ∙ carry_again rules b y has_b) in
    (ap (λ (p : Carry × List ℕ). p.0) e, ap (λ (p : Carry × List ℕ). p.1) e)

-- what is read of the bytes of a carry
read_of : (rules : CarryRules) (bytes : List ℕ) (carry : Carry) → IsCarryOf rules bytes carry → carry_at rules bytes ≡ Some (carry, [])
read_of rules bytes carry h = ap (carry_at rules) (h.spelled ∙ sym (append-nil (spell carry))) ∙ carry_again rules carry [] h.form

pub only_carry : (rules : CarryRules) (bytes rest : List ℕ) (read carry : Carry) → carry_at rules bytes ≡ Some (read, rest) →
    IsCarryOf rules bytes carry → (read ≡ carry) × (rest ≡ [])
only_carry rules bytes rest read carry reads h =
    let e = some_is (pair read rest) (pair carry []) (sym reads ∙ read_of rules bytes carry h) in
    (ap (λ (p : Carry × List ℕ). p.0) e, ap (λ (p : Carry × List ℕ). p.1) e)

pub no_carry : (rules : CarryRules) (bytes : List ℕ) (carry : Carry) (e : ResumeFault) → e ≡ faults.BadCarry →
    Fails e (carry_at rules bytes) → IsCarryOf rules bytes carry → ⊥
no_carry rules bytes carry faults.NoMemory is fails h = absurd cc
no_carry rules bytes carry faults.BadCarry is fails h = let e = sym fails ∙ read_of rules bytes carry h in absurd cc
