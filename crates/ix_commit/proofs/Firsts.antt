-- How many bytes the first body of a log has.
use Rattle.std.proofs.Common.{◌≡◌, ◌<◌, ℕ, ◌+◌, List, [], ◌∷◌, ◌++◌, length, Bool, true, false, if◌then◌else◌, refl, ap, sym, ◌∙◌, arith}
use Rattle.std.proofs.Common.{length-append}
use Rattle.std.specs.Prelude.{◌==◌}
use Rattle.std.proofs.lemmas.Bool.Decides.{nat_tests}
use Rattle.ix_manifest.specs.Book.{NamedItems, Replays}
use Rattle.ix_manifest.specs.Replaying.{first_after, first_length}
use Rattle.ix_manifest.specs.Slots.{bytes_of}
use Rattle.ix_manifest.specs.declared.staged_item.StagedItem.{StagedItem}
use Rattle.ix_manifest.proofs.PutItems.{item_some}

pub first_stays : (first size : ℕ) → size ≡ 0 → first_after first first size ≡ first
first_stays first size is = go (first == 0) refl
  where
    go : (test : Bool) → (first == 0) ≡ test → (if test then size else first) ≡ first
    go true told = let zero : first ≡ 0 = grind (arith, nat_tests) in omega (arith, is, zero)
    go false told = refl

pub first_push : (first size : ℕ) (bodies : List (List ℕ)) (body : List ℕ) → first ≡ first_length bodies → (first ≡ 0 → bodies ≡ []) →
    size ≡ length body → first_after first first size ≡ first_length (bodies ++ body ∷ [])
first_push first size [] body is none sized = ap (λ (n : ℕ). first_after n n size) is ∙ sized
first_push first size (b ∷ bodies) body is none sized = go (first == 0) refl
  where
    go : (test : Bool) → (first == 0) ≡ test → (if test then size else first) ≡ length b
    go true told = let zero : first ≡ 0 = grind (arith, nat_tests) in let no : (b ∷ bodies) ≡ [] = none zero in absurd cc
    go false told = is

pub first_some : (first size : ℕ) (bodies : List (List ℕ)) (body : List ℕ) → 0 < size → first_after first first size ≡ 0 →
    (bodies ++ body ∷ []) ≡ []
first_some first size bodies body some is = go (first == 0) refl is
  where
    go : (test : Bool) → (first == 0) ≡ test → (if test then size else first) ≡ 0 → (bodies ++ body ∷ []) ≡ []
    go true told zero = absurd (omega (arith, some, zero))
    go false told zero = absurd (grind (arith, nat_tests))

pub slots_some : (slot : StagedItem) (slots : List StagedItem) → 0 < length (bytes_of (slot ∷ slots))
slots_some slot slots = omega (arith, item_some slot.item, ap length slot.spelled, length-append slot.bytes (bytes_of slots))

-- a log that replays has no empty body
pub replayed_some : (fits : NamedItems → Type 0) (bodies : List (List ℕ)) (from to : NamedItems) (first : ℕ) → Replays fits bodies from to →
    first ≡ first_length bodies → first ≡ 0 → bodies ≡ []
replayed_some fits [] from to first replays is zero = refl
replayed_some fits (body ∷ bodies) from to first replays is zero = absurd (omega (arith, replays.1.some, is, zero))
