-- The numbers of a store.
use Rattle.std.proofs.Common.{◌≡◌, ◌≤◌, ◌-◌, ℕ, zero, suc, Bool, true, false, List, [], ◌∷◌, ◌++◌, take, drop, refl, sym, ap, ◌∙◌, arith}
use Rattle.std.specs.Prelude.{nat_le, ◌||◌}
use Rattle.std.proofs.lemmas.Bool.Decides.{nat_tests}
use Rattle.std.proofs.lemmas.List.{take-append-drop}
use Rattle.ix_model.specs.declared.commands.TimedCommand.{TimedCommand}
use Rattle.ix_model.proofs.Named.{by_test}
use Rattle.ix_store.specs.Counting.{numbers, weights, capped, is_due}
use Rattle.ix_store.specs.Holding.{AreCounted}
use Rattle.ix_store.specs.declared.group.CommitGroup.{CommitGroup}
use Rattle.ix_store.proofs.Counted.{numbers_more}

-- behind the base stand the committed ones and the others
dropped : {X : Type 0} (b k : ℕ) (h : List X) → b ≤ k → drop b h ≡ drop b (take k h) ++ drop k h
dropped zero k h le = sym (take-append-drop k h)
dropped (suc b) zero h le = absurd (omega (arith, le))
dropped (suc b) (suc k) [] le = refl
dropped (suc b) (suc k) (x ∷ h) le = dropped b k h (omega (arith, le))

le_capped : (n : ℕ) → nat_le 1048576 (capped n) ≡ nat_le 1048576 n
le_capped n = by_test (nat_le 1048576 n) (λ t. yes t ∙ sym t) (λ t. not t ∙ sym t)
  where
    yes : nat_le 1048576 n ≡ true → nat_le 1048576 (capped n) ≡ true
    yes t = grind (arith, nat_tests)

    not : nat_le 1048576 n ≡ false → nat_le 1048576 (capped n) ≡ false
    not t = grind (arith, nat_tests)

pub due_is : (drawn committed numbered : ℕ) (group : CommitGroup) (h : List TimedCommand) (base k : ℕ) → base ≤ k →
    AreCounted drawn committed group h base k → numbered ≡ drawn - committed →
    (nat_le 64 numbered || (nat_le 1048576 group.weight || group.turned)) ≡ is_due (drop k h)
due_is drawn committed numbered group h base k le counted is =
    let all = ap numbers (dropped base k h le) ∙ numbers_more (drop base (take k h)) (drop k h) in
    let d = counted.drawn_are in
    let c = counted.committed_are in
    let n : numbered ≡ numbers (drop k h) = omega (arith, all, d, c, is) in
    ap (λ (m : ℕ). nat_le 64 m || (nat_le 1048576 group.weight || group.turned)) n
    ∙ ap (λ (t : Bool). nat_le 64 (numbers (drop k h)) || (t || group.turned)) (ap (nat_le 1048576) counted.weight
    ∙ le_capped (weights (drop k h)))
    ∙ ap (λ (t : Bool). nat_le 64 (numbers (drop k h)) || (nat_le 1048576 (weights (drop k h)) || t)) counted.turned
