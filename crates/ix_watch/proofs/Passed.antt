-- Behind a pass the history still goes on with each file that only grows.
use Rattle.std.proofs.Common.{◌≡◌, ◌+◌, ℕ, Bool, true, false, List, [], ◌∷◌, ◌++◌, length, map, take, refl, sym, ap, ◌∙◌, subst}
use Rattle.std.specs.Prelude.{Option, Some, None, bytes_eq, if◌then◌else◌, ◌&&◌}
use Rattle.std.proofs.lemmas.Bool.{true≢false}
use Rattle.std.proofs.lemmas.List.{map-append}
use Rattle.ix_base.specs.Clocks.{Moments}
use Rattle.ix_base.specs.Told.{IsFrontOf}
use Rattle.ix_base.specs.declared.events.Spot.{Spot}
use Rattle.ix_fs.specs.declared.trees.TreeFile.{TreeFile}
use Rattle.ix_fs.specs.Trees.{bytes_at}
use Rattle.ix_monitor.specs.Steps.{plan}
use Rattle.ix_monitor.specs.declared.steps.Step.{Step}
use Rattle.ix_monitor.specs.declared.steps.Step.TheVariants.{Skip, From, Again}
use Rattle.ix_monitor.specs.declared.watched.Watched.{Watched}
use Rattle.ix_model.specs.Given.{Chooser}
use Rattle.ix_model.specs.Judged.{is_begun, adds, needs_tick}
use Rattle.ix_model.specs.State.{empty}
use Rattle.ix_model.specs.Step.{state_after}
use Rattle.ix_model.specs.declared.commands.Command.{Command}
use Rattle.ix_model.specs.declared.commands.TimedCommand.{TimedCommand}
use Rattle.ix_model.proofs.Named.{by_test, same_bytes, bytes_same}
use Rattle.ix_watch.specs.Passes.{Visit, IsVisited, with_all, AreVisited, HasPassed}
use Rattle.ix_watch.specs.Visits as defs
use Rattle.ix_watch.specs.Visits.{Found, IsFound, IsFoundIn, begins, begins_anew, ends, visit_by, visit_of}
use Rattle.ix_watch.specs.Watching.{channel_of, kept_of, AllFollow, Follows, FollowsBlock, command_of, kept_behind, IsWatched, IsKept}
use Rattle.ix_watch.specs.Watching.{HasRead}
use Rattle.ix_watch.proofs.Following.{both_follow, front_of_all, visits_follow, longer_is_watched}
use Rattle.ix_watch.proofs.Growing.{all_kept, kept_after, watched_is_read}
use Rattle.ix_watch.proofs.Histories.{with_join, more_of, with_more}

-- ---- histories

kept_is : (choose : Chooser) (path : List ℕ) (h : List TimedCommand) →
    kept_of (state_after choose h) path ≡ all_kept path None (map command_of h)
kept_is choose path h = kept_after choose path empty h

-- commands that go on behind a history
more_watched : (choose : Chooser) (file path : List ℕ) (h more : List TimedCommand) → IsWatched file path h →
    AllFollow file path (kept_of (state_after choose h) path) (map command_of more) → IsWatched file path (h ++ more)
more_watched choose file path h more on follow =
    subst (λ (l : List Command). AllFollow file path None l) (sym (map-append command_of h more))
    (both_follow file path None (map command_of h) (map command_of more) on
    (subst (λ (k : Option Spot). AllFollow file path k (map command_of more)) (kept_is choose path h) follow))

-- a Tick that comes before a command says nothing of the file
with_tick : (choose : Chooser) (file path : List ℕ) (h : List TimedCommand) (o : TimedCommand) →
    Follows file path (kept_of (state_after choose h) path) o.command →
    AllFollow file path (kept_of (state_after choose h) path) (map command_of (adds (state_after choose h) o))
with_tick choose file path h o on = by_test (needs_tick (state_after choose h) o)
    (λ t. rw t (tt, (on, tt)))
    (λ t. rw t (on, tt))

kept_with : (choose : Chooser) (path : List ℕ) (h : List TimedCommand) (o : TimedCommand) →
    kept_of (state_after choose (h ++ adds (state_after choose h) o)) path ≡ kept_behind path (kept_of (state_after choose h) path)
    o.command
kept_with choose path h o =
    kept_is choose path (h ++ adds (state_after choose h) o)
    ∙ ap (all_kept path None) (map-append command_of h (adds (state_after choose h) o))
    ∙ kept_both None (map command_of h) (map command_of (adds (state_after choose h) o))
    ∙ ap (λ (k : Option Spot). all_kept path k (map command_of (adds (state_after choose h) o))) (sym (kept_is choose path h))
    ∙ by_test (needs_tick (state_after choose h) o) (λ t. rw t refl) (λ t. rw t refl)
  where
    kept_both : (k : Option Spot) (a b : List Command) → all_kept path k (a ++ b) ≡ all_kept path (all_kept path k a) b
    kept_both k [] b = refl
    kept_both k (c ∷ a) b = kept_both (kept_behind path k c) a b

all_watched : (choose : Chooser) (file path : List ℕ) (h orders : List TimedCommand) → IsWatched file path h →
    AllFollow file path (kept_of (state_after choose h) path) (map command_of orders) →
    IsWatched file path (with_all choose h orders)
all_watched choose file path h [] on follow = on
all_watched choose file path h (o ∷ orders) on follow =
    all_watched choose file path (h ++ adds (state_after choose h) o) orders
    (more_watched choose file path h (adds (state_after choose h) o) on (with_tick choose file path h o follow.0))
    (subst (λ (k : Option Spot). AllFollow file path k (map command_of orders)) (sym (kept_with choose path h o)) follow.1)

-- ---- a visit of another file

module _ (file : List ℕ) (path : List ℕ) (kept : Option Spot) (other : Watched) (apart : bytes_eq other.path path ≡ false) where
  channels_apart : bytes_eq (channel_of other.path) (channel_of path) ≡ false
  channels_apart = by_test (bytes_eq (channel_of other.path) (channel_of path))
      (λ t. absurd (true≢false (sym (bytes_same other.path path (tails (same_bytes (channel_of other.path) (channel_of path) t))) ∙ apart)))
      (λ t. t)
    where
      tails : channel_of other.path ≡ channel_of path → other.path ≡ path
      tails e = cc

  end_spares : (close : Bool) → AllFollow file path kept (ends other close)
  end_spares true = (tt, tt)
  end_spares false = tt

  add_spares : (head : List ℕ) (place : ℕ) (blocks : List (List ℕ)) (close : Bool) →
      AllFollow file path kept (defs.adds other.path head place blocks ++ ends other close)
  add_spares head place [] close = end_spares close
  add_spares head place (block ∷ blocks) close = (
    subst (λ (b : Bool). FollowsBlock b file path kept block (Some (defs.spot_at other.path head (place + length block))))
        (sym channels_apart) apart,
    subst (λ (k : Option Spot). AllFollow file path k (defs.adds other.path head (place + length block) blocks ++ ends other close))
        (sym (ap (λ (b : Bool). if b then Some (defs.spot_at other.path head (place + length block)) else kept) apart))
        (add_spares head (place + length block) blocks close),
  )

  begin_spares : (is_open : Bool) (rest : List Command) → AllFollow file path kept rest →
      AllFollow file path kept (begins other is_open ++ rest)
  begin_spares true rest on = on
  begin_spares false rest on = (tt, on)

  anew_spares : (is_open : Bool) (rest : List Command) → AllFollow file path kept rest →
      AllFollow file path kept (begins_anew other is_open ++ rest)
  anew_spares true rest on = (tt, (tt, on))
  anew_spares false rest on = (tt, on)

  by_spares : (step : Step) (found : Found) (is_open close : Bool) → AllFollow file path kept (visit_by step other found is_open close)
  by_spares Skip found is_open close = end_spares (is_open && close)
  by_spares (From place) found is_open close = begin_spares is_open _ (add_spares found.seen.head place found.blocks close)
  by_spares Again found is_open close = anew_spares is_open _ (add_spares found.seen.head 0 found.blocks close)

-- ---- visits

module _ (choose : Chooser) (files : List TreeFile) (close : Bool) (bytes path : List ℕ) (told : bytes_at files path ≡ Some bytes) where
  found_is : (whole : Bool) (kept : Option Spot) (found : Found) → IsFoundIn whole kept (Some found) (Some bytes) → IsFound bytes kept found
  found_is true kept found is = is.0
  found_is false kept found is = is.0

  own : (whole is_open : Bool) (h : List TimedCommand) (file : Watched) (orders : List TimedCommand) (rest : List Command)
      (found : Option Found) → file.path ≡ path → IsKept bytes (kept_of (state_after choose h) file.path) →
      IsFoundIn whole (kept_of (state_after choose h) file.path) found (bytes_at files file.path) →
      visit_of file (kept_of (state_after choose h) file.path) found is_open close ≡ map command_of orders ++ rest →
      AllFollow bytes file.path (kept_of (state_after choose h) file.path) (map command_of orders)
  own whole is_open h file orders rest None same lies is commands =
      front_of_all bytes file.path (kept_of (state_after choose h) file.path) (map command_of orders) rest
      (subst (λ (l : List Command). AllFollow bytes file.path (kept_of (state_after choose h) file.path) l) commands tt)
  own whole is_open h file orders rest (Some found) same lies is commands =
      visits_follow file bytes (kept_of (state_after choose h) file.path) found is_open close orders lies
      (found_is whole (kept_of (state_after choose h) file.path) found
      (subst (λ (o : Option (List ℕ)). IsFoundIn whole (kept_of (state_after choose h) file.path) (Some found) o) (ap (bytes_at files) same
      ∙ told) is))
      (record { rest = rest; commands = commands })

  other : (is_open : Bool) (h : List TimedCommand) (file : Watched) (orders : List TimedCommand) (rest : List Command) (kept : Option Spot)
      (found : Option Found) → bytes_eq file.path path ≡ false →
      visit_of file kept found is_open close ≡ map command_of orders ++ rest →
      AllFollow bytes path (kept_of (state_after choose h) path) (map command_of orders)
  other is_open h file orders rest kept found apart commands =
      front_of_all bytes path (kept_of (state_after choose h) path) (map command_of orders) rest
      (subst (λ (l : List Command). AllFollow bytes path (kept_of (state_after choose h) path) l) commands (all found))
    where
      all : (found : Option Found) → AllFollow bytes path (kept_of (state_after choose h) path) (visit_of file kept found is_open close)
      all None = tt
      all (Some found) = by_spares bytes path (kept_of (state_after choose h) path) file apart (plan found.seen kept) found is_open close

  one_follows : (whole : Bool) (h : List TimedCommand) (v : Visit) (orders : List TimedCommand) → IsWatched bytes path h →
      IsVisited choose (Some files) close whole h v orders →
      AllFollow bytes path (kept_of (state_after choose h) path) (map command_of orders)
  one_follows whole h v orders on is = by_test (bytes_eq v.file.path path)
      (λ t. (let same : v.file.path ≡ path = same_bytes v.file.path path t in
      subst (λ (p : List ℕ). AllFollow bytes p (kept_of (state_after choose h) p) (map command_of orders)) same
      (own whole (is_begun (state_after choose h) (channel_of v.file.path)) h v.file orders is.rest v.found same
      (subst (λ (p : List ℕ). IsKept bytes (kept_of (state_after choose h) p)) (sym same) (read_all h on).kept) is.told is.commands)))
      (λ t. other (is_begun (state_after choose h) (channel_of v.file.path)) h v.file orders is.rest
      (kept_of (state_after choose h) v.file.path) v.found t is.commands)
    where
      read_all : (h : List TimedCommand) → IsWatched bytes path h → HasRead bytes path choose h
      read_all h on = subst (λ (l : List TimedCommand). HasRead bytes path choose l) (take_whole h)
          (watched_is_read choose bytes path h (length h) on)
        where
          take_whole : (l : List TimedCommand) → take (length l) l ≡ l
          take_whole [] = refl
          take_whole (x ∷ l) = ap (λ (r : List TimedCommand). x ∷ r) (take_whole l)

  visits_watched : (whole : Bool) (h : List TimedCommand) (visits : List Visit) (orders : List TimedCommand) → IsWatched bytes path h →
      AreVisited choose (Some files) close whole h visits orders →
      IsWatched bytes path (with_all choose h orders)
  visits_watched whole h [] orders on are = subst (λ (l : List TimedCommand). IsWatched bytes path (with_all choose h l)) (sym are) on
  visits_watched whole h (v ∷ []) orders on are = all_watched choose bytes path h orders on (one_follows whole h v orders on are)
  visits_watched whole h (v ∷ next ∷ visits) orders on are =
      subst (λ (l : List TimedCommand). IsWatched bytes path (with_all choose h l)) (sym are.2)
      (subst (λ (l : List TimedCommand). IsWatched bytes path l) (sym (with_join choose h are.0 are.1))
      (visits_watched whole (with_all choose h are.0) (next
      ∷ visits) are.1 (all_watched choose bytes path h are.0 on (one_follows true h v are.0 on are.3)) are.4))

-- with the first of the commands only
front_watched : (choose : Chooser) (file path : List ℕ) (h orders rest : List TimedCommand) →
    IsWatched file path (with_all choose h (orders ++ rest)) → IsWatched file path (with_all choose h orders)
front_watched choose file path h orders rest on =
    front_of_all file path None (map command_of (with_all choose h orders))
    (map command_of (more_of choose (with_all choose h orders) rest))
    (subst (λ (l : List Command). AllFollow file path None l)
    (map-append command_of (with_all choose h orders) (more_of choose (with_all choose h orders) rest))
    (subst (λ (l : List TimedCommand). IsWatched file path l) (with_join choose h orders rest
    ∙ with_more choose (with_all choose h orders) rest) on))

-- ---- the law

pub passes_follow : (choose : Chooser) (files : List TreeFile) (close whole : Bool) (ahead ahead' : Option Moments)
    (history orders : List TimedCommand) (before bytes path : List ℕ) →
    IsWatched before path history → IsFrontOf before bytes → bytes_at files path ≡ Some bytes →
    HasPassed choose (Some files) close whole ahead ahead' history orders →
    IsWatched bytes path (with_all choose history orders)
passes_follow choose files close whole ahead ahead' history orders before bytes path on front told pass =
    front_watched choose bytes path history orders pass.rest
    (subst (λ (l : List TimedCommand). IsWatched bytes path (with_all choose history l)) pass.parts
    (visits_watched choose files close bytes path told whole history pass.visits pass.tried
    (longer_is_watched before bytes path history front on) pass.are))
