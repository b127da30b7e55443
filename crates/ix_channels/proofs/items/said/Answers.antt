use Rattle.std.proofs.Common.{◌<◌, ◌^◌, ℕ, List, ◌∙◌, ap, sym, subst, length, rules}
use Rattle.std.specs.Prelude.{IsErrOf}
use Rattle.ix_base.specs.declared.events.ChannelMeta.{ChannelMeta}
use Rattle.ix_items.specs.Spelling.{IsMeta}
use Rattle.ix_items.specs.declared.items.Item.TheVariants as items
use Rattle.ix_channels.specs.declared.channel_effect.WorkFault.TheVariants as faults
use Rattle.ix_channels.proofs.Carries.{short_carry}
use Rattle.ix_parse.specs.Carry.{rules_of, carry_of}
use Rattle.ix_channels.proofs.items.said.Goals as goal

pub returns-in_err-item-clause-full : goal.returns-in_err-item-clause-full
returns-in_err-item-clause-full c = λ was settings stated stream stands moments name meta.
    let full : IsErrOf c.channel_item.result faults.Full = search rules in
    c.channel_item.ensures.full full
    (subst (λ (n : List ℕ). length n < 2 ^ 32) (sym c.in_ok-copy.ensures) name)
    (subst (λ (m : ChannelMeta). IsMeta m) (sym c.in_ok-copy-2.ensures) meta)
    (short_carry (rules_of settings) c.in_ok-carry.carry (carry_of settings stream)
    (c.in_ok-carry.ensures.is_carry settings stated stream stands moments))

pub returns-clause-said : goal.returns-clause-said
returns-clause-said c = λ settings stated stream stands.
    c.in_ok-item.ensures.item
    ∙ ap (λ (n : List ℕ). items.Channel n c.in_ok-copy-2.field-0 c.in_ok-carry.carry) c.in_ok-copy.ensures
    ∙ ap (λ (m : ChannelMeta). items.Channel c.args.name.now m c.in_ok-carry.carry) c.in_ok-copy-2.ensures
    ∙ ap (λ (b : List ℕ). items.Channel c.args.name.now c.args.meta.now b) (c.in_ok-carry.ensures.spelled settings stated stream stands)
