use Rattle.std.proofs.Common.{◌≡◌, ◌<◌, ◌≤◌, ◌∙◌, ℕ, List, false, true, ltb, eqb, length, refl, sym, ap, subst, arith, eq-eqb, Result, Err}
use Rattle.std.specs.Prelude.{codes}
use Rattle.std.specs.Str.Lossy.{utf8_valid_len}
use Rattle.std.proofs.lemmas.Bool.{ne_eqb}
use Rattle.std.proofs.lemmas.Bool.Decides.{nat_tests}
use Rattle.std.proofs.lemmas.Str.{utf8_valid_len-IsUtf8}
use Rattle.ix_conf.specs.Lines.{physical_lines, logical_lines}
use Rattle.ix_conf.specs.Grammar.{Gives, pairs, entries_of, entries_of_text}
use Rattle.ix_conf.specs.declared.entries.Entry.{Entry}
use Rattle.ix_conf.specs.declared.entries.ConfFault.{ConfFault}
use Rattle.ix_conf.specs.declared.entries.ConfFault.TheVariants.{TooLong, NotUtf8}
use Rattle.ix_conf.proofs.reading.parse.Goals as goal

too_long : (bytes : List ℕ) → 1048576 < length bytes → pairs bytes ≡ Err TooLong
unfolding pairs
too_long bytes long = let e : ltb 1048576 (length bytes) ≡ true = grind (arith, nat_tests) in rw e refl

not_text : (bytes : List ℕ) → length bytes ≤ 1048576 → utf8_valid_len bytes < length bytes →
    pairs bytes ≡ Err (NotUtf8 (utf8_valid_len bytes))
unfolding pairs
not_text bytes fits short =
    let e : ltb 1048576 (length bytes) ≡ false = grind (arith, nat_tests) in
    let n : eqb (utf8_valid_len bytes) (length bytes) ≡ false = ne_eqb (utf8_valid_len bytes) (length bytes) (λ h. omega arith) in
    rw (e, n) refl

a_text : (bytes : List ℕ) → length bytes ≤ 1048576 → utf8_valid_len bytes ≡ length bytes → pairs bytes ≡ entries_of_text bytes
unfolding pairs
a_text bytes fits whole =
    let e : ltb 1048576 (length bytes) ≡ false = grind (arith, nat_tests) in
    let n : eqb (utf8_valid_len bytes) (length bytes) ≡ true = eq-eqb (utf8_valid_len bytes) (length bytes) whole in
    rw (e, n) refl

pub returns-then-bytes-gt-MAX_TEXT : goal.returns-then-bytes-gt-MAX_TEXT
returns-then-bytes-gt-MAX_TEXT c = too_long c.args.bytes.now c.if-bytes-gt-MAX_TEXT.true

pub returns-in-Ok : goal.returns-in-Ok
returns-in-Ok c =
    let text = a_text c.args.bytes.now c.if-bytes-gt-MAX_TEXT.false (utf8_valid_len-IsUtf8 c.args.bytes.now c.in-Ok.ensures.cases.1) in
    let read = ap (λ (t : List ℕ). entries_of (codes "default") (logical_lines false 1 (physical_lines t))) c.without_mark.ensures.value in
    let P : Result (List Entry) ConfFault → Type 0 = λ r. Gives c.read_text.result r in
    subst P (read ∙ sym text) c.read_text.ensures

pub returns-in-Err : goal.returns-in-Err
returns-in-Err c =
    let at = c.in-Err.ensures.valid_len in
    let valid = c.in-Err.ensures.cases.1 in
    let short : utf8_valid_len c.args.bytes.now < length c.args.bytes.now = omega (arith, valid.short, at) in
    let found = not_text c.args.bytes.now c.if-bytes-gt-MAX_TEXT.false short in
    cc
