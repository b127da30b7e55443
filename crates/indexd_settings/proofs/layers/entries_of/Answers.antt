use Rattle.std.proofs.Common.{◌≡◌, ◌<◌, ℕ, List, true, ltb, length, refl, arith, rules, Result, Ok, Err, IfOk, Option, None, Some}
use Rattle.std.proofs.lemmas.Bool.Decides.{nat_tests}
use Rattle.ix_conf.specs.Grammar.{pairs, Gives}
use Rattle.ix_conf.specs.declared.entries.Entry.{Entry}
use Rattle.ix_conf.specs.declared.entries.ConfFault.{ConfFault}
use Rattle.ix_conf.specs.declared.entries.ConfFault.TheVariants.{TooLong}
use Rattle.indexd_settings.specs.Layers.{IsTextOr, longest_file}
use Rattle.indexd_settings.proofs.layers.entries_of.Goals as goal

too_long : (bytes : List ℕ) → longest_file < length bytes → pairs bytes ≡ Err TooLong
unfolding pairs
too_long bytes long = let e : ltb longest_file (length bytes) ≡ true = grind (arith, nat_tests) in rw e refl

longer : (bytes : List ℕ) (text : Option (List ℕ)) → text ≡ None → IsTextOr text bytes → longest_file < length bytes
longer bytes None is long = long
longer bytes (Some text) is same = search rules

of_text : (result : Result (List Entry) ConfFault) (text : List ℕ) → Gives result (pairs text) →
    IfOk result (λ entries. (bytes : List ℕ) × (pairs bytes ≡ Ok entries))
of_text (Ok entries) text gives = (text, gives)
of_text (Err fault) text gives = tt

pub returns-in-Some-clause-text : goal.returns-in-Some-clause-text
returns-in-Some-clause-text c = of_text c.parse.result _ c.parse.ensures

pub returns-in-None-clause-gives : goal.returns-in-None-clause-gives
returns-in-None-clause-gives c = λ bytes text. too_long bytes (longer bytes c.args.text c.in-None.is text)
