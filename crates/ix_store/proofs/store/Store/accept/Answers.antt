use Rattle.std.proofs.Common.{rules, refl, subst, sym}
use Rattle.std.proofs.lemmas.Int.{to_z-of_z}
use mir.Val.{SFits}
use Rattle.std.specs.Int.{w64}
use Rattle.ix_model.specs.Judged.{adds}
use Rattle.ix_model.specs.Step.{state_after}
use Rattle.ix_store.specs.Making.{with_order}
use Rattle.ix_store.proofs.Joining.{accepted, more_taken}
use Rattle.ix_store.proofs.Recalling.{remembers_same}
use Rattle.ix_model.specs.declared.commands.TimedCommand.{TimedCommand}
use Rattle.ix_store.proofs.store.Store.accept.Goals as goal

pub returns-clause-accepted : goal.returns-clause-accepted
returns-clause-accepted g c = λ choose history base k old chooser given st.
    let fits : SFits w64 c.args.moment = search rules in
    let made = c.in_ok-made.ensures in
    let is = simp to_z-of_z at (made.made choose history chooser given st.memory) in
    let took = c.in-Ok.ensures in
    let drew = c.draw-number.ensures in
    accepted _ g.M.StoreMemory.holds choose history base k _ (record { command = c.args.command; moment = c.args.moment }) _ c.args.self.now
    c.take.new.self c.draw-number.new.self old _ _ _
    is c.take.ensures.same (took.memory choose _ is.ready) took.staged took.done took.weight took.turned took.waiting made.weight
    c.draws-draws.ensures c.is_turn-turned.ensures
    drew.memory drew.committer drew.run drew.committed drew.group drew.closed drew.drawn refl drew.number refl st

pub returns-clause-remembers : goal.returns-clause-remembers
returns-clause-remembers g c = λ choose history chooser given held.
    let fits : SFits w64 c.args.moment = search rules in
    let order : TimedCommand = record { command = c.args.command; moment = c.args.moment } in
    let is = simp to_z-of_z at (c.in_ok-made.ensures.made choose history chooser given held) in (
      adds (state_after choose history) order,
      more_taken g.M.StoreMemory.takes g.met.M.StoreMemory.ticks_are_taken choose history order given c.requires,
      subst (g.M.StoreMemory.holds choose (with_order choose history order)) (sym c.draw-number.ensures.memory)
          (c.in-Ok.ensures.memory choose _ is.ready),
    )

pub returns-then-is_closed-clause-remembers : goal.returns-then-is_closed-clause-remembers
returns-then-is_closed-clause-remembers g c = remembers_same g.M.StoreMemory.is_chooser g.M.StoreMemory.takes g.M.StoreMemory.holds
    c.args.self.now.memory c.args.self.now.memory refl

pub returns-in_err-made-clause-remembers : goal.returns-in_err-made-clause-remembers
returns-in_err-made-clause-remembers g c = remembers_same g.M.StoreMemory.is_chooser g.M.StoreMemory.takes g.M.StoreMemory.holds
    c.args.self.now.memory c.args.self.now.memory refl

pub returns-in-Err-clause-remembers : goal.returns-in-Err-clause-remembers
returns-in-Err-clause-remembers g c = remembers_same g.M.StoreMemory.is_chooser g.M.StoreMemory.takes g.M.StoreMemory.holds
    c.args.self.now.memory c.take.new.self.memory c.in-Err.ensures.err.memory
