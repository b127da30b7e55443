-- Commands that go on with a file have read its first bytes.
use Rattle.std.proofs.Common.{◌≡◌, ◌≤◌, ◌+◌, ℕ, zero, suc, Bool, true, false, List, [], ◌∷◌, ◌++◌, length, take, drop, map, refl, sym, ap}
use Rattle.std.proofs.Common.{◌∙◌, subst, arith, append_assoc}
use Rattle.std.specs.Prelude.{Option, Some, None, if◌then◌else◌, bytes_eq}
use Rattle.std.proofs.lemmas.List.{append-nil, length-append, length-drop, length-take, take-append-drop}
use Rattle.std.proofs.Math.Seq.{take-append_seam, take-append-add}
use Rattle.ix_base.specs.Told.{IsFrontOf}
use Rattle.ix_base.specs.declared.events.Spot.{Spot}
use Rattle.ix_catalog.specs.Lists.{find}
use Rattle.ix_model.specs.Given.{Chooser}
use Rattle.ix_model.specs.State.{State, spot_path, empty}
use Rattle.ix_model.specs.Step.{spots, step, after_from}
use Rattle.ix_model.specs.declared.commands.Command.{Command}
use Rattle.ix_model.specs.declared.commands.Command.TheVariants.{Begin, Block, End, Tick, Roll, Thaw, Configure, Direct}
use Rattle.ix_model.specs.declared.commands.TimedCommand.{TimedCommand}
use Rattle.ix_model.proofs.Named.{bytes_same}
use Rattle.ix_model.proofs.SaidSpots.{find_spot}
use Rattle.ix_watch.specs.Watching.{channel_of, kept_of, offset_in, bytes_to, all_bytes, GoesOn, IsElsewhere, FollowsBlock, Follows}
use Rattle.ix_watch.specs.Watching.{with_spot, kept_behind, AllFollow, command_of, IsWatched, IsKept, HasRead}

-- ---- what the machine keeps

kept_step : (path : List ℕ) (m : State) (command : Command) →
    find spot_path path (spots m command) ≡ kept_behind path (kept_of m path) command
kept_step path m (Begin name meta) = refl
kept_step path m (Block name bytes None) = refl
kept_step path m (Block name bytes (Some spot)) = find_spot spot path m.spots
kept_step path m (End name) = refl
kept_step path m Tick = refl
kept_step path m (Roll index) = refl
kept_step path m (Thaw index id) = refl
kept_step path m (Configure config) = refl
kept_step path m (Direct events) = refl

abbrev pub all_kept : List ℕ → Option Spot → List Command → Option Spot
all_kept path kept [] = kept
all_kept path kept (command ∷ commands) = all_kept path (kept_behind path kept command) commands

pub kept_after : (choose : Chooser) (path : List ℕ) (m : State) (history : List TimedCommand) →
    kept_of (after_from choose m history) path ≡ all_kept path (kept_of m path) (map command_of history)
kept_after choose path m [] = refl
kept_after choose path m (order ∷ history) =
    kept_after choose path (step choose m order) history
    ∙ ap (λ (kept : Option Spot). all_kept path kept (map command_of history)) (kept_step path m order.command)

-- ---- one command

-- more of the file was read
pub record Grew (file : List ℕ) (kept kept' : Option Spot) (more : List ℕ) : Type 0 where
  pub bytes : take (offset_in kept') file ≡ take (offset_in kept) file ++ more
  pub lies : IsKept file kept'

none_more : (file : List ℕ) (kept : Option Spot) → IsKept file kept → Grew file kept kept []
none_more file kept lies = record { bytes = sym (append-nil (take (offset_in kept) file)); lies = lies }

take_more : (a : ℕ) (bytes file : List ℕ) → a ≤ length file → IsFrontOf bytes (drop a file) → take (a + length bytes) file ≡ take a file
    ++ bytes
take_more a bytes file within front =
    let e : length (take a file) ≡ a = omega (arith, length-take a file, within) in
    ap (λ (k : ℕ). take (k + length bytes) file) (sym e)
    ∙ ap (λ (l : List ℕ). take (length (take a file) + length bytes) l) (sym (take-append-drop a file))
    ∙ take-append-add (take a file) (drop a file) (length bytes)
    ∙ ap (λ (l : List ℕ). take a file ++ l) (ap (take (length bytes)) front.whole_is ∙ take-append_seam bytes front.rest)

room_more : (a : ℕ) (bytes file : List ℕ) → a ≤ length file → IsFrontOf bytes (drop a file) → a + length bytes ≤ length file
room_more a bytes file within front = omega (arith, within, simp (length-drop, length-append) at (ap length front.whole_is))

goes_on : (file path : List ℕ) (kept : Option Spot) (bytes : List ℕ) (spot : Option Spot) → IsKept file kept →
    GoesOn file path kept bytes spot →
    Grew file kept (with_spot path kept spot) bytes
goes_on file path kept bytes spot lies on =
    subst (λ (s : Option Spot). Grew file kept (with_spot path kept s) bytes) (sym on.spot_is)
    (subst (λ (b : Bool). Grew file kept (if b then Some at else kept) bytes) (sym (bytes_same path path refl)) whole)
  where
    at : Spot
    at = record { path = path; head = on.head; offset = offset_in kept + length bytes }

    whole : Grew file kept (Some at) bytes
    whole = record {
      bytes = take_more (offset_in kept) bytes file lies.within on.next;
      lies = record { within = room_more (offset_in kept) bytes file lies.within on.next; head = (on.short, on.begins) };
    }

elsewhere : (file path : List ℕ) (kept : Option Spot) (spot : Option Spot) → IsKept file kept → IsElsewhere path spot →
    Grew file kept (with_spot path kept spot) []
elsewhere file path kept None lies is = none_more file kept lies
elsewhere file path kept (Some spot) lies is = subst (λ (b : Bool). Grew file kept (if b then Some spot else kept) []) (sym is)
    (none_more file kept lies)

block_grew : (file path : List ℕ) (kept : Option Spot) (bytes : List ℕ) (spot : Option Spot) (b : Bool) → IsKept file kept →
    FollowsBlock b file path kept bytes spot →
    Grew file kept (with_spot path kept spot) (if b then bytes else [])
block_grew file path kept bytes spot true lies on = goes_on file path kept bytes spot lies on
block_grew file path kept bytes spot false lies on = elsewhere file path kept spot lies on

pub grew : (file path : List ℕ) (kept : Option Spot) (command : Command) → IsKept file kept → Follows file path kept command →
    Grew file kept (kept_behind path kept command) (bytes_to (channel_of path) command)
grew file path kept (Begin name meta) lies on = none_more file kept lies
grew file path kept (Block name bytes spot) lies on = block_grew file path kept bytes spot (bytes_eq name (channel_of path)) lies on
grew file path kept (End name) lies on = none_more file kept lies
grew file path kept Tick lies on = none_more file kept lies
grew file path kept (Roll index) lies on = none_more file kept lies
grew file path kept (Thaw index id) lies on = none_more file kept lies
grew file path kept (Configure config) lies on = none_more file kept lies
grew file path kept (Direct events) lies on = none_more file kept lies

-- ---- many commands

grew_on : (file : List ℕ) (a b c : Option Spot) (more later : List ℕ) → Grew file a b more → Grew file b c later →
    Grew file a c (more ++ later)
grew_on file a b c more later one two = record {
  bytes = two.bytes ∙ ap (λ (l : List ℕ). l ++ later) one.bytes ∙ append_assoc (take (offset_in a) file) more later;
  lies = two.lies;
}

all_grew : (file path : List ℕ) (kept : Option Spot) (history : List TimedCommand) → IsKept file kept →
    AllFollow file path kept (map command_of history) →
    Grew file kept (all_kept path kept (map command_of history)) (all_bytes (channel_of path) history)
all_grew file path kept [] lies on = none_more file kept lies
all_grew file path kept (order ∷ history) lies on =
    let one = grew file path kept order.command lies on.0 in
    grew_on file kept (kept_behind path kept order.command) (all_kept path (kept_behind path kept order.command) (map command_of history))
    (bytes_to (channel_of path) order.command) (all_bytes (channel_of path) history) one
    (all_grew file path (kept_behind path kept order.command) history one.lies on.1)

-- ---- the law

pub none_kept : (file : List ℕ) → IsKept file None
none_kept file = record { within = omega arith; head = tt }

pub front_follows : (file path : List ℕ) (kept : Option Spot) (n : ℕ) (history : List TimedCommand) →
    AllFollow file path kept (map command_of history) → AllFollow file path kept (map command_of (take n history))
front_follows file path kept zero history on = tt
front_follows file path kept (suc n) [] on = tt
front_follows file path kept (suc n) (order ∷ history) on =
    (on.0, front_follows file path (kept_behind path kept order.command) n history on.1)

has_read : (choose : Chooser) (file path : List ℕ) (history : List TimedCommand) → IsWatched file path history →
    HasRead file path choose history
has_read choose file path history on =
    let all = all_grew file path None history (none_kept file) on in
    let is = kept_after choose path empty history in record {
      bytes = sym all.bytes ∙ ap (λ (kept : Option Spot). take (offset_in kept) file) (sym is);
      kept = subst (λ (kept : Option Spot). IsKept file kept) (sym is) all.lies;
    }

pub watched_is_read : (choose : Chooser) (file path : List ℕ) (history : List TimedCommand) (n : ℕ) → IsWatched file path history →
    HasRead file path choose (take n history)
watched_is_read choose file path history n on = has_read choose file path (take n history) (front_follows file path None n history on)
