-- One of several commands has no room.
use Rattle.std.proofs.Common.{◌≡◌, ◌≢◌, ◌<◌, ◌≤◌, ◌-◌, ◌∙◌, ℕ, zero, suc, List, [], ◌∷◌, ◌++◌, length, take, drop, map, refl, ap}
use Rattle.std.proofs.Common.{subst, arith, append_assoc, length-drop}
use Rattle.std.proofs.lemmas.List.{map-append}
use Rattle.ix_model.specs.Given.{Chooser}
use Rattle.ix_model.specs.declared.commands.Command.TheVariants.{Begin, Configure, End}
use Rattle.ix_model.specs.declared.commands.Config.{Config}
use Rattle.ix_model.specs.declared.commands.TimedCommand.{TimedCommand}
use Rattle.ix_run.specs.Giving.{given_all}
use Rattle.ix_store.specs.Making.{with_order}
use Rattle.indexd_selftest.specs.Blocks.{AreCut, IsCutOff, left, next, size}
use Rattle.indexd_selftest.specs.Full.{HasNoRoom, OneHasNoRoom, OneBlockHasNoRoom}
use Rattle.indexd_selftest.specs.History.{channel, meta, orders, sent, sent_all, sent_block, turn}
use Rattle.indexd_selftest.specs.declared.generator.Generator.{Generator}

-- ---- a stream can be cut

no_bytes : (b : ℕ) (bytes : List ℕ) → b ∷ bytes ≢ []
no_bytes b bytes is = cc

shorter : (whole n part fuel : ℕ) → part ≡ whole - n → 0 < n → whole ≤ suc fuel → part ≤ fuel
shorter whole n part fuel is some most = omega (arith, is, some, most)

size_some : (x : ℕ) → 0 < size x
size_some x = omega arith

cut_within : (fuel x : ℕ) (bytes : List ℕ) → length bytes ≤ fuel → (blocks : List (List ℕ)) × AreCut x bytes blocks
cut_within zero x [] most = ([], refl)
cut_within zero x (b ∷ bytes) most = absurd (none (length bytes) most)
  where
    none : (n : ℕ) → suc n ≤ 0 → ⊥
    none n most = omega (arith, most)
cut_within (suc fuel) x [] most = ([], refl)
cut_within (suc fuel) x (b ∷ bytes) most =
    let rest = cut_within fuel (next x) (drop (size (next x)) (b ∷ bytes))
    (shorter (length (b ∷ bytes)) (size (next x)) (length (drop (size (next x)) (b ∷ bytes))) fuel (length-drop (size (next x)) (b ∷ bytes))
    (size_some (next x)) most) in
    (take (size (next x)) (b ∷ bytes) ∷ rest.0, (no_bytes b bytes, refl, rest.1))

all_of : (n : ℕ) → n ≤ n
all_of n = omega arith

pub cut_all : (x : ℕ) (bytes : List ℕ) → (blocks : List (List ℕ)) × AreCut x bytes blocks
cut_all x bytes = cut_within (length bytes) x bytes (all_of (length bytes))

-- ---- one among others

first_of : (choose : Chooser) (base : ℕ) (history : List TimedCommand) (first : TimedCommand) (others : List TimedCommand) →
    HasNoRoom choose base history first → OneHasNoRoom choose base history (first ∷ others)
first_of choose base history first others full = record { before = []; order = first; rest = others; parts = refl; full = full }

last_of : (choose : Chooser) (base : ℕ) (history others : List TimedCommand) (last : TimedCommand) →
    HasNoRoom choose base (given_all choose history others) last → OneHasNoRoom choose base history (others ++ last ∷ [])
last_of choose base history others last full = record { before = others; order = last; rest = []; parts = refl; full = full }

-- one of those between the first and the last
between : (choose : Chooser) (base : ℕ) (history : List TimedCommand) (first : TimedCommand) (others : List TimedCommand)
    (last : TimedCommand) → OneHasNoRoom choose base (with_order choose history first) others →
    OneHasNoRoom choose base history (first ∷ others ++ last ∷ [])
between choose base history first others last one = record {
  before = first ∷ one.before;
  order = one.order;
  rest = one.rest ++ last ∷ [];
  parts = ap (λ (l : List TimedCommand). first ∷ l ++ last ∷ []) one.parts
      ∙ ap (λ (l : List TimedCommand). first ∷ l) (append_assoc one.before (one.order ∷ one.rest) (last ∷ []));
  full = one.full;
}

-- ---- blocks

-- a block that was cut off has no room, behind those before it
pub block_full : (choose : Chooser) (base : ℕ) (history : List TimedCommand) (x : ℕ) (bytes : List ℕ) (old new : Generator)
    (block : List ℕ) (blocks : List (List ℕ)) → IsCutOff old new block →
    ((rest : List (List ℕ)) → AreCut old.x (left old) rest → AreCut x bytes (blocks ++ rest)) →
    HasNoRoom choose base (given_all choose history (map sent_block blocks)) (sent_block block) →
    OneBlockHasNoRoom choose base history (map sent_block) x bytes
block_full choose base history x bytes old new block blocks off before full =
    let rest = cut_all (next old.x) (drop (size (next old.x)) (left old)) in
    record {
      blocks = blocks ++ block ∷ rest.0;
      cut = before (block ∷ rest.0) (off.some, off.block_is, rest.1);
      one = record {
        before = map sent_block blocks;
        order = sent_block block;
        rest = map sent_block rest.0;
        parts = map-append sent_block blocks (block ∷ rest.0);
        full = full;
      };
    }

-- ---- the whole channel

module _ (choose : Chooser) (base : ℕ) (history : List TimedCommand) (seed : ℕ) (bytes : List ℕ) where
  pub begin_full : HasNoRoom choose base history (sent (Begin channel meta)) →
      OneBlockHasNoRoom choose base history sent_all seed bytes
  begin_full full =
      let cut = cut_all seed bytes in
      record {
        blocks = cut.0;
        cut = cut.1;
        one = first_of choose base history (sent (Begin channel meta)) (map sent_block cut.0 ++ sent (End channel) ∷ []) full;
      }

  pub blocks_full : OneBlockHasNoRoom choose base (with_order choose history (sent (Begin channel meta))) (map sent_block) seed bytes →
      OneBlockHasNoRoom choose base history sent_all seed bytes
  blocks_full some = record {
    blocks = some.blocks;
    cut = some.cut;
    one = between choose base history (sent (Begin channel meta)) (map sent_block some.blocks) (sent (End channel)) some.one;
  }

  pub end_full : (blocks : List (List ℕ)) → AreCut seed bytes blocks →
      HasNoRoom choose base (given_all choose history (sent (Begin channel meta) ∷ map sent_block blocks)) (sent (End channel)) →
      OneBlockHasNoRoom choose base history sent_all seed bytes
  end_full blocks cut full = record {
    blocks = blocks;
    cut = cut;
    one = last_of choose base history (sent (Begin channel meta) ∷ map sent_block blocks) (sent (End channel)) full;
  }

-- ---- all commands

at_none : (count : ℕ) → count ≤ 0 → count ≡ 0
at_none count most = omega (arith, most)

module _ (choose : Chooser) (config : Config) (seed : ℕ) (bytes : List ℕ) (base : ℕ) (none : base ≤ 0) where
  abbrev AllFull : ℕ → Type 0
  AllFull from = OneBlockHasNoRoom choose from [] (orders config) seed bytes

  from_none : AllFull base → AllFull 0
  from_none full = subst AllFull (at_none base none) full

  pub configure_full : HasNoRoom choose base [] (sent (Configure config)) → AllFull 0
  configure_full full =
      let cut = cut_all seed bytes in
      from_none (record {
        blocks = cut.0;
        cut = cut.1;
        one = first_of choose base [] (sent (Configure config)) (sent_all cut.0 ++ turn ∷ []) full;
      })

  pub channel_full : OneBlockHasNoRoom choose base (with_order choose [] (sent (Configure config))) sent_all seed bytes → AllFull 0
  channel_full some = from_none (record {
    blocks = some.blocks;
    cut = some.cut;
    one = between choose base [] (sent (Configure config)) (sent_all some.blocks) turn some.one;
  })

  pub turn_full : (blocks : List (List ℕ)) → AreCut seed bytes blocks →
      HasNoRoom choose base (given_all choose [] (sent (Configure config) ∷ sent_all blocks)) turn → AllFull 0
  turn_full blocks cut full = from_none (record {
    blocks = blocks;
    cut = cut;
    one = last_of choose base [] (sent (Configure config) ∷ sent_all blocks) turn full;
  })
