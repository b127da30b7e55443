-- How many bytes the items of a state come to.
use Rattle.std.proofs.Common.{◌≡◌, ◌≤◌, ◌<◌, ◌+◌, ◌*◌, ◌-◌, ◌^◌, ℕ, ℤ, List, [], ◌∷◌, length, refl, sym, ◌∙◌, arith, length-append}
use Rattle.std.specs.List.{AllByRecursion, sum_by}
use Rattle.std.proofs.lemmas.List.Sorted.{sum_by-IsPermutation}
use Rattle.std.proofs.lemmas.List.Sums.{sum_by-cons}
use Rattle.ix_base.specs.declared.events.ChannelMeta.{ChannelMeta}
use Rattle.ix_coding.specs.Spelling.{byte, four, eight, signed, string}
use Rattle.ix_items.specs.Spelling.{item_bytes, field_bytes, settings_bytes}
use Rattle.ix_items.specs.declared.items.Item.TheVariants as items
use Rattle.ix_model.specs.Given.{Chooser}
use Rattle.ix_model.specs.State.{State, ChannelHistory}
use Rattle.ix_model.specs.Step.{state_after}
use Rattle.ix_model.specs.Bounds.{KeepsBounds}
use Rattle.ix_model.specs.declared.commands.TimedCommand.{TimedCommand}
use Rattle.ix_replay.specs.Amounts.{size_in}
use Rattle.ix_model.specs.Books.{life_item}
use Rattle.ix_model.proofs.Unchanged.{HasSome, some_after}
use Rattle.ix_recovery.specs.ListLaws.{carried_in, CarriesFew, HaveRoom}
use Rattle.ix_recovery.specs.Listed.{state_items, left_items}
use Rattle.ix_recovery.proofs.Summing.{long, body_sum, state_sum, indexes_sum, numbers_sized, amounts_left}

-- ---- single items

long_moments : (last tick : ℤ) → long (items.Moments last tick) ≡ 17
unfolding item_bytes field_bytes byte signed
long_moments last tick = refl

long_counts : (settled nulled dropped placed : ℕ) → long (items.Counts settled nulled dropped placed) ≡ 33
unfolding item_bytes field_bytes byte eight
long_counts settled nulled dropped placed = refl

long_next : (number : ℕ) → long (items.NextFile number) ≡ 9
unfolding item_bytes field_bytes byte eight
long_next number = refl

long_blank : long (items.Settings []) ≡ 5
unfolding item_bytes field_bytes settings_bytes byte four
long_blank = refl

length_four : (n : ℕ) → length (four n) ≡ 4
unfolding four
length_four n = refl

length_string : (text : List ℕ) → length (string text) ≡ 4 + length text
unfolding string
length_string text = omega (arith, length-append (four (length text)) text, length_four (length text))

-- what is carried comes to what stands without it
long_channel : (name : List ℕ) (meta : ChannelMeta) (carry : List ℕ) →
    long (items.Channel name meta carry) ≡ size_in (items.Channel name meta carry) + length carry
unfolding item_bytes field_bytes
long_channel name meta carry = simp (length-append, length_string carry, length_string []) (omega arith)

-- ---- all of a state

lives_long : (lives : List ChannelHistory) → AllByRecursion (λ (l : ChannelHistory). carried_in (life_item l) ≤ 8388608) lives →
    sum_by (λ (l : ChannelHistory). long (life_item l)) lives ≤ sum_by (λ (l : ChannelHistory). size_in (life_item l)) lives + 8388608 *
    length lives
lives_long [] few = omega arith
lives_long (l ∷ lives) few =
    let a = sum_by-cons (λ (x : ChannelHistory). long (life_item x)) l lives in
    let b = sum_by-cons (λ (x : ChannelHistory). size_in (life_item x)) l lives in
    let c = long_life l in
    let d = few.0 in
    let e = lives_long lives few.1 in
    omega (arith, a, b, c, d, e)
  where
    long_life : (x : ChannelHistory) → long (life_item x) ≡ size_in (life_item x) + carried_in (life_item x)
    long_life x = long_channel x.name x.meta _

state_long : (m : State) → AllByRecursion HasSome m.catalog.indexes → CarriesFew m →
    sum_by long (state_items m) ≤ sum_by size_in (state_items m) + 59 + 8388608 * length m.channels
state_long m some few =
    let is = m.catalog.indexes in
    let a = state_sum long m in
    let b = state_sum size_in m in
    let c = lives_long m.channels few in
    let d = indexes_sum long is ∙ sym (indexes_sum size_in is) in
    let e = numbers_sized is some in
    let f = long_moments m.last m.tick in
    let g = long_counts m.catalog.counts.settled m.catalog.counts.nulled m.catalog.counts.dropped m.catalog.counts.placed in
    let h = long_next m.catalog.next_file in
    omega (arith, a, b, c, d, e, f, g, h)

state_room : (choose : Chooser) (history : List TimedCommand) → KeepsBounds (state_after choose history) →
    CarriesFew (state_after choose history) → sum_by long (left_items choose history) < 2 ^ 32 - 64
state_room choose [] bounds few = let b = long_blank in let c = sum_by-cons long (items.Settings []) [] in omega (arith, b, c)
state_room choose (o ∷ history) bounds few =
    let m : State = state_after choose (o ∷ history) in
    let b = state_long m (some_after choose (o ∷ history)) few in
    let c = (amounts_left choose (o ∷ history)).size in
    let d = bounds.items in
    let e = bounds.channels in
    omega (arith, b, c, d, e)

pub have_room : HaveRoom
have_room choose history said moved bounds few =
    let a = body_sum said in
    let b = sum_by-IsPermutation long (left_items choose history) said moved in
    let c = state_room choose history bounds few in
    omega (arith, a, b, c)
