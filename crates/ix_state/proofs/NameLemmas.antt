-- The grammar keeps the names of stanzas within their limit.
use Rattle.std.proofs.Common.{◌≡◌, ℕ, ◌≤◌, Bool, true, false, List, [], ◌∷◌, Option, Some, None, refl, subst, length, arith, codes}
use Rattle.std.specs.Prelude.{nat_lt, ◌==◌, ◌||◌, if◌then◌else◌, Result, Ok, Err}
use Rattle.std.specs.List.{AllByRecursion}
use Rattle.std.specs.Str.Lossy.{utf8_valid_len}
use Rattle.std.proofs.lemmas.Bool.Decides.{nat_tests}
use Rattle.ix_conf.specs.Grammar.{Said, nothing, opens, sets, bad_stanza, no_equals, stanza_said, setting_said, said_plainly, said, behind}
use Rattle.ix_conf.specs.Grammar.{entries_with, entries_of, entries_of_text, pairs}
use Rattle.ix_conf.specs.Lines.{Line, cut_at, before_last, trimmed, without_mark, physical_lines, logical_lines}
use Rattle.ix_conf.specs.declared.entries.ConfFault.{ConfFault}
use Rattle.ix_conf.specs.declared.entries.ConfFault.TheVariants.{NotUtf8, TooLong}
use Rattle.ix_conf.specs.declared.entries.Entry.{Entry}
use Rattle.ix_conf.specs.declared.entries.Entry.TheVariants.{Stanza, Pair}
use Rattle.ix_state.specs.Keeping.{stanza_of, ReadNamesAreShort}

abbrev AreShort : List Entry → Type 0
AreShort file = AllByRecursion (λ (entry : Entry). length (stanza_of entry) ≤ 1024) file

short_test : (n : ℕ) → nat_lt 1024 n ≡ false → n ≤ 1024
short_test n h = grind (arith, nat_tests)

stanza_short : (found : Option (List ℕ)) (name : List ℕ) → stanza_said found ≡ opens name → length name ≤ 1024
stanza_short None name h = cc
stanza_short (Some x) name h = by (length x == 0) (nat_lt 1024 (length x)) refl h
  where
    by : (a b : Bool) → nat_lt 1024 (length x) ≡ b → (if a || b then bad_stanza else opens x) ≡ opens name → length name ≤ 1024
    by true b e h = cc
    by false true e h = cc
    by false false e h = let same : x ≡ name = cc in subst (λ (z : List ℕ). length z ≤ 1024) same (short_test (length x) e)

setting_never : (found : Option (List ℕ × List ℕ)) (name : List ℕ) → setting_said found ≡ opens name → ⊥
setting_never None name h = cc
setting_never (Some parts) name h = by (length parts.0 == 0) h
  where
    by : (a : Bool) → (if a then no_equals else sets (trimmed parts.0) (trimmed parts.1)) ≡ opens name → ⊥
    by true h = cc
    by false h = cc

plain_short : (line name : List ℕ) → said_plainly line ≡ opens name → length name ≤ 1024
plain_short [] name h = cc
plain_short (b ∷ bs) name h = by (b == 91) h
  where
    by : (a : Bool) → (if a then stanza_said (before_last 93 bs) else setting_said (cut_at 61 (b ∷ bs))) ≡ opens name → length name ≤ 1024
    by true h = stanza_short (before_last 93 bs) name h
    by false h = absurd (setting_never (cut_at 61 (b ∷ bs)) name h)

behind_short : (x : Entry) (found : Result (List Entry) ConfFault) (file : List Entry) → length (stanza_of x) ≤ 1024
    → ((es : List Entry) → found ≡ Ok es → AreShort es) → behind (x ∷ []) found ≡ Ok file → AreShort file
behind_short x (Ok es) file short rest h = let same : x ∷ es ≡ file = cc in subst AreShort same (short, rest es refl)
behind_short x (Err fault) file short rest h = cc

with_short : (number : ℕ) (stanza : List ℕ) (s : Said) (lines : List ℕ → Result (List Entry) ConfFault) (file : List Entry) →
    length stanza ≤ 1024
    → ((name : List ℕ) → s ≡ opens name → length name ≤ 1024)
    → ((name : List ℕ) (es : List Entry) → length name ≤ 1024 → lines name ≡ Ok es → AreShort es)
    → entries_with number stanza s lines ≡ Ok file → AreShort file
with_short number stanza nothing lines file short named rest h = rest stanza file short h
with_short number stanza (opens name) lines file short named rest h =
    behind_short (Stanza name) (lines name) file (named name refl) (λ es e. rest name es (named name refl) e) h
with_short number stanza (sets key value) lines file short named rest h =
    behind_short (Pair stanza key value) (lines stanza) file short (λ es e. rest stanza es short e) h
with_short number stanza bad_stanza lines file short named rest h = cc
with_short number stanza no_equals lines file short named rest h = cc

entries_short : (lines : List Line) (stanza : List ℕ) (file : List Entry) → length stanza ≤ 1024 → entries_of stanza lines ≡ Ok file →
    AreShort file
entries_short [] stanza file short h = let same : [] ≡ file = cc in subst AreShort same tt
entries_short (line ∷ lines) stanza file short h =
    with_short line.number stanza (said line.text) (λ s. entries_of s lines) file short (λ name e. plain_short (trimmed line.text) name e)
    (λ name es short' e. entries_short lines name es short' e) h

default_short : length (codes "default") ≤ 1024
default_short = omega arith

chosen : (a b : Bool) (x y z : Result (List Entry) ConfFault) (file : List Entry) → (x ≡ Ok file → ⊥) → (z ≡ Ok file → ⊥)
    → (if a then x else if b then y else z) ≡ Ok file → y ≡ Ok file
chosen true b x y z file first last h = absurd (first h)
chosen false true x y z file first last h = h
chosen false false x y z file first last h = absurd (last h)

pub read_names : ReadNamesAreShort
unfolding pairs
read_names name text file h =
    let first : Err TooLong ≡ Ok file → ⊥ = λ e. cc in
    let last : Err (NotUtf8 (utf8_valid_len text)) ≡ Ok file → ⊥ = λ e. cc in
    entries_short (logical_lines false 1 (physical_lines (without_mark text))) (codes "default") file default_short
    (chosen (nat_lt 1048576 (length text)) (utf8_valid_len text == length text) (Err TooLong) (entries_of_text text)
    (Err (NotUtf8 (utf8_valid_len text))) file
    first last h)
