use Rattle.std.proofs.Common.{◌≡◌, ◌∙◌, ap, refl, sym}
use Rattle.std.specs.Prelude.{Option, Some, None, Err}
use Rattle.clap.specs.Walk.{texts}
use Rattle.indexd_cli.specs.Orders.{Asked, asked}
use Rattle.indexd_cli.specs.Shown.{shown}
use Rattle.indexd_cli.specs.declared.invocation.UsageFault.{UsageFault}
use Rattle.indexd_core.specs.Commands.{is_built, is_heard}
use Rattle.indexd_core.proofs.CarriedLemmas.{carried_as, no_room, refused}
use Rattle.indexd_core.proofs.program.answer.Goals as goal

pub returns-in_default : goal.returns-in_default
returns-in_default g c = record {
  carried = no_room g.D.Disk _ _ _ _ c.stop.ensures.status c.stop.ensures.line c.stop.ensures.later;
  unheard = λ other. refl;
}

pub carry_out-requires : goal.carry_out-requires
carry_out-requires g c = (_, c.in-Ok-read_words.ensures.asks)

pub returns-in-Ok-read_words : goal.returns-in-Ok-read_words
returns-in-Ok-read_words g c =
    let here : asked c.args.words.now ≡ Some (shown c.in-Ok-read_words.order) =
    ap asked (sym (ap texts c.deref.ensures.value ∙ c.in-Ok.ensures)) ∙ c.in-Ok-read_words.ensures.asks in
    record {
      carried = carried_as here c.carry_out.ensures.carried;
      unheard = λ other. c.carry_out.ensures.unheard (sym (ap (λ (o : Option Asked). is_heard o) here) ∙ other);
    }

pub returns-in-Err-NoMemory : goal.returns-in-Err-NoMemory
returns-in-Err-NoMemory g c = record {
  carried = no_room g.D.Disk _ _ _ _ c.stop-in-Err-NoMemory.ensures.status c.stop-in-Err-NoMemory.ensures.line
      c.stop-in-Err-NoMemory.ensures.later;
  unheard = λ other. refl;
}

pub returns : goal.returns
returns g c =
    let none : asked c.args.words.now ≡ None =
    ap asked (sym (ap texts c.deref.ensures.value ∙ c.in-Ok.ensures))
    ∙ c.read_words.ensures.usage (c.in-Err-Usage.is ∙ ap (λ (r : UsageFault). Err r) c.in-Err-Usage.field-0-is) in
    record {
      carried = refused g.D.Disk _ _ _ _ (ap (λ (o : Option Asked). is_built o) none) c.stop-in-Err-Usage.ensures.status
          c.stop-in-Err-Usage.ensures.line c.stop-in-Err-Usage.ensures.later;
      unheard = λ other. refl;
    }
