use Rattle.std.proofs.Common.{rules, arith, ◌≡◌, ◌∙◌, ◌++◌, ◌+◌, ◌<◌, ap, sym, length, get_or, take, replicate, w64, of_z}
use mir.Val.{SFits}
use Rattle.std.specs.List.{zip}
use Rattle.std.proofs.lemmas.List.{length-drop}
use Rattle.std.proofs.Math.Facts.{to_z-of_z}
use Rattle.ix_lines.specs.Carry.{runs_of}
use Rattle.ix_lines.specs.Lines.{unless_empty}
use Rattle.ix_lines.specs.declared.moments.Run.{Run}
use Rattle.ix_lines.proofs.SeekLemmas.{rest-is}
use Rattle.ix_lines.proofs.CarryLemmas.{run-over, length-over, run-fits, run-last}
use Rattle.ix_lines.proofs.MomentLemmas.{no_run, waiting, run-joins, none-equal, same-words}
use Rattle.ix_lines.proofs.carry.runs_of.Goals.{then-part-gt0+then-part-open+in_ok-add_run, else-part-gt0}
use Rattle.ix_lines.proofs.carry.runs_of.Goals.{else-part-gt0-via-then-part-gt0+else-part-open, else-part-gt0-via-else-part-gt0}
use Rattle.ix_lines.proofs.carry.runs_of.Goals as goal

pub overflow_add-open : goal.overflow_add-open
overflow_add-open c =
    let k = run-fits c.loop-part.rest.now c.args.moments.now c.loop-part.part-index c.loop-part.«open» c.loop-part-test.true
    c.loop-part.invariant.same in
    omega arith

pub loop-part-preserved : goal.loop-part-preserved
loop-part-preserved c =
    let parts = c.args.moments.now in
    let i = c.loop-part.part-index in
    let now : Run = c.loop-part.«open» in
    let rest = c.loop-part.rest.now in
    let inv = c.loop-part.invariant in
    let p : Run = get_or parts i no_run in
    let near : i < length parts = c.loop-part-test.true in
    elim c.if-part-gt0.branch [
      | then-part-gt0+then-part-open+in_ok-add_run w ↦
          let g : SFits w64 now.moment = search rules in
          let other : ¬ (p.moment ≡ now.moment) = λ e. w.if-part-open.true (ap (of_z w64) e) in
          let left = ap (λ r. r.now) w.rest-is ∙ rest-is rest now.count in
          let out = w.runs-is ∙ w.in_ok-add_run.ensures
          ∙ ap (λ m. c.loop-part.runs ++ unless_empty (take now.count rest) m) (to_z-of_z g) in
          record {
            short = omega (arith, ap length left, length-drop now.count rest);
            same = length-over rest c.if-part-gt0.rest.now parts i now c.if-part-gt0.«open» near w.open-is left inv.same;
            value = run-over c.loop-part.runs c.if-part-gt0.runs _ rest c.if-part-gt0.rest.now parts i now c.if-part-gt0.«open» near
                w.open-is
                w.if-part-gt0.true other left out inv.same inv.value;
          }
      | else-part-gt0 w ↦
          let same = elim w.else-part-gt0.branch as (λ _. replicate p.count p.moment ≡ replicate p.count now.moment) [
            | else-part-gt0-via-then-part-gt0+else-part-open w' ↦ ap (replicate p.count)
                (same-words p.moment now.moment (search rules) (search rules) w'.if-part-open.false)
            | else-part-gt0-via-else-part-gt0 w' ↦ none-equal p.count p.moment now.moment w'.if-part-gt0.false
          ] in
          let e = run-joins parts i now c.if-part-gt0.«open» near w.open-is same in
          let left = ap (λ r. r.now) w.rest-is in
          record {
            short = omega (arith, ap length left);
            same = ap length left ∙ inv.same ∙ ap length (sym e);
            value = ap (λ l. l ++ runs_of (zip c.if-part-gt0.rest.now (waiting c.if-part-gt0.«open» parts (i + 1)))) w.runs-is
                ∙ ap (λ l. c.loop-part.runs ++ runs_of (zip l (waiting c.if-part-gt0.«open» parts (i + 1)))) left
                ∙ ap (λ l. c.loop-part.runs ++ runs_of (zip rest l)) e ∙ inv.value;
          }
    ]

pub returns : goal.returns
returns c =
    let now : Run = c.loop-part.«open» in
    let g : SFits w64 now.moment = search rules in
    run-last c.loop-part.runs c.add_run-2.new.runs _ c.loop-part.rest.now c.args.moments.now c.loop-part.part-index now
    c.loop-part-test.false
    (c.in_ok-add_run-2.ensures ∙ ap (λ m. c.loop-part.runs ++ unless_empty (take now.count c.loop-part.rest.now) m) (to_z-of_z g))
    c.loop-part.invariant.same c.loop-part.invariant.value
