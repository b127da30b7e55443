-- Visits one behind the other are a pass.
use Rattle.std.proofs.Common.{◌≡◌, ◌≤◌, ◌<◌, ◌+◌, ℕ, zero, suc, arith, Bool, true, false, List, [], ◌∷◌, ◌++◌, length, map, take, get_or}
use Rattle.std.proofs.Common.{add-one, refl, sym, ap, ◌∙◌, subst, append_assoc}
use Rattle.std.specs.Prelude.{Option, Some, None, Result, IfSome}
use Rattle.std.proofs.lemmas.List.{append-nil, map-append}
use Rattle.std.proofs.Math.Seq.{take-suc}
use Rattle.std.proofs.lemmas.Bool.{false≢true}
use Rattle.std.proofs.lemmas.Grind.{flat_map-append}
use Rattle.std.specs.List.{AllByRecursion}
use Rattle.ix_base.specs.Clocks.{Moments}
use Rattle.ix_base.specs.declared.events.Spot.{Spot}
use Rattle.ix_fs.specs.declared.trees.TreeFile.{TreeFile}
use Rattle.ix_fs.specs.Trees.{bytes_at}
use Rattle.ix_model.specs.Given.{Chooser}
use Rattle.ix_model.specs.Judged.{is_begun}
use Rattle.ix_model.specs.Step.{state_after}
use Rattle.ix_model.specs.declared.commands.TimedCommand.{TimedCommand}
use Rattle.ix_store.specs.Making.{with_order}
use Rattle.ix_run.specs.Giving.{given_all}
use Rattle.ix_watch.proofs.Histories.{with_join}
use Rattle.ix_watch.specs.Passes.{Visit, file_of, line_of, lines, with_all, IsVisited, AreVisited}
use Rattle.ix_watch.specs.Visits.{Found, visit_of, visited_of, line, IsRead, IsFoundIn}
use Rattle.ix_pass.specs.Visiting.{is_whole, Visits}
use Rattle.ix_watch.specs.Watching.{channel_of, kept_of}
use Rattle.ix_monitor.specs.declared.watched.Watched.{Watched}
use Rattle.ix_watch.specs.declared.visited.Visited.{Visited}

-- what the contract of `visit` says is a visit behind each history that is held before it
pub is_visited : {E : Type 0} (result : Result Visited E) (choose : Chooser) (h : List TimedCommand) (files : Option (List TreeFile))
    (file : Watched) (close : Bool) (x y : Option Moments)
    (knows : Option Spot → Bool → Type 0) (went : List TimedCommand → Type 0) → (is : Visits result files file close x y knows went) →
    ((kept : Option Spot) (is_open : Bool) → knows kept is_open → (kept ≡ kept_of (state_after choose h) file.path)
    × (is_open ≡ is_begun (state_after choose h) (channel_of file.path))) →
    IsVisited choose files close (is_whole result) h (record { file = file; found = is.found; came = visited_of is.kept is.found })
    is.tried.orders
is_visited result choose h files file close x y knows went is so = by is.found refl
  where
    by : (o : Option Found) → is.found ≡ o → IsVisited choose files close (is_whole result) h
        (record { file = file; found = is.found; came = visited_of is.kept is.found }) is.tried.orders
    by None e = record {
      rest = is.tried.rest;
      commands = (let none : visit_of file (kept_of (state_after choose h) file.path) is.found
          (is_begun (state_after choose h) (channel_of file.path)) close ≡ visit_of file is.kept is.found is.is_open close
          = ap (λ (f : Option Found). visit_of file (kept_of (state_after choose h) file.path) f
          (is_begun (state_after choose h) (channel_of file.path)) close) e
          ∙ sym (ap (λ (f : Option Found). visit_of file is.kept f is.is_open close) e) in none ∙ is.tried.commands_are);
      all = is.tried.whole;
      came = λ t. ap (λ (f : Option Found). visited_of is.kept f) e
          ∙ sym (ap (λ (f : Option Found). visited_of (kept_of (state_after choose h) file.path) f) e);
      read = subst (λ (f : Option Found). IfSome f (IsRead (kept_of (state_after choose h) file.path))) (sym e) tt;
      told = told_none files (subst (λ (f : Option Found).
          IfSome files (λ all. IsFoundIn (is_whole result) is.kept f (bytes_at all file.path))) e is.told);
    }
      where
        one_none : (whole : Bool) (a b : Option Spot) (o : Option (List ℕ)) → IsFoundIn whole a None o → IsFoundIn whole b None o
        one_none whole a b None is = is
        one_none true a b (Some bytes) is = is
        one_none false a b (Some bytes) is = is

        told_none : (files : Option (List TreeFile)) → IfSome files
            (λ all. IsFoundIn (is_whole result) is.kept None (bytes_at all file.path)) →
            IfSome files (λ all. IsFoundIn (is_whole result) (kept_of (state_after choose h) file.path) is.found (bytes_at all file.path))
        told_none None t = tt
        told_none (Some all) t = subst (λ (f : Option Found).
            IsFoundIn (is_whole result) (kept_of (state_after choose h) file.path) f (bytes_at all file.path)) (sym e)
            (one_none (is_whole result) is.kept (kept_of (state_after choose h) file.path) (bytes_at all file.path) t)
    by (Some found) e =
        let both = so is.kept is.is_open (subst (λ (f : Option Found). IfSome f (λ (some : Found). knows is.kept is.is_open)) e is.known) in
        record {
          rest = is.tried.rest;
          commands = ap (λ (k : Option Spot). visit_of file k is.found (is_begun (state_after choose h) (channel_of file.path)) close)
              (sym both.0)
              ∙ ap (λ (b : Bool). visit_of file is.kept is.found b close) (sym both.1) ∙ is.tried.commands_are;
          all = is.tried.whole;
          came = λ t. ap (λ (k : Option Spot). visited_of k is.found) both.0;
          read = subst (λ (k : Option Spot). IfSome is.found (IsRead k)) both.0 is.read;
          told = subst (λ (k : Option Spot). IfSome files (λ all. IsFoundIn (is_whole result) k is.found (bytes_at all file.path))) both.0
              is.told;
        }

-- one more visit, behind whole ones
pub visits_more : (choose : Chooser) (files : Option (List TreeFile)) (close whole : Bool) (h : List TimedCommand) (visits : List Visit)
    (orders : List TimedCommand) (v : Visit) (more : List TimedCommand) →
    AreVisited choose files close true h visits orders → IsVisited choose files close whole (with_all choose h orders) v more →
    AreVisited choose files close whole h (visits ++ v ∷ []) (orders ++ more)
visits_more choose files close whole h [] orders v more are is =
    subst (λ (os : List TimedCommand). IsVisited choose files close whole h v (os ++ more)) (sym are)
    (subst (λ (os : List TimedCommand). IsVisited choose files close whole (with_all choose h os) v more) are is)
visits_more choose files close whole h (one ∷ []) orders v more are is = (orders, more, refl, are, is)
visits_more choose files close whole h (one ∷ next ∷ visits) orders v more are is = (
  are.0,
  are.1 ++ more,
  ap (λ (l : List TimedCommand). l ++ more) are.2 ∙ append_assoc are.0 are.1 more,
  are.3,
  visits_more choose files close whole (with_all choose h are.0) (next ∷ visits) are.1 v more are.4
      (subst (λ (l : List TimedCommand). IsVisited choose files close whole l v more) (ap (with_all choose h) are.2
      ∙ with_join choose h are.0 are.1) is),
)

-- one more file
take_one : (xs : List Watched) (i : ℕ) (d : Watched) → i < length xs → take (i + 1) xs ≡ take i xs ++ get_or xs i d ∷ []
take_one xs i d l = rw add-one (take-suc xs i d l)

pub files_more : (visits : List Visit) (v : Visit) (files : List Watched) (i : ℕ) → v.file ≡ get_or files i v.file →
    map file_of visits ≡ take i files → i < length files →
    map file_of (visits ++ v ∷ []) ≡ take (i + 1) files
files_more visits v files i is so l =
    map-append file_of visits (v ∷ []) ∙ ap (λ (x : List Watched). x ++ v.file ∷ []) so ∙ ap (λ (w : Watched). take i files ++ w ∷ []) is
    ∙ sym (take_one files i v.file l)

pub all_of : (visits : List Visit) (files : List Watched) (i : ℕ) → length files ≤ i → map file_of visits ≡ take i files →
    files ≡ map file_of visits ++ []
all_of visits files i long so = sym (take_all i files long) ∙ sym so ∙ sym (append-nil (map file_of visits))
  where
    take_all : (k : ℕ) (l : List Watched) → length l ≤ k → take k l ≡ l
    take_all zero [] e = refl
    take_all (suc k) [] e = refl
    take_all zero (x ∷ l) e = absurd (omega (arith, e))
    take_all (suc k) (x ∷ l) e = ap (λ (r : List Watched). x ∷ r) (take_all k l (omega (arith, e)))

-- its line
pub lines_more : (visits : List Visit) (v : Visit) → lines (visits ++ v ∷ []) ≡ lines visits ++ line_of v
lines_more visits v = flat_map-append line_of visits (v ∷ []) ∙ ap (λ (l : List ℕ). lines visits ++ l) (append-nil (line_of v))

pub told_more : (visits : List Visit) (v : Visit) (before text : List ℕ) (came : Visited) → before ≡ lines visits → text ≡ before
    ++ line v.file came → came ≡ v.came → text ≡ lines (visits ++ v ∷ [])
told_more visits v before text came so is same =
    is ∙ ap (λ (l : List ℕ). l ++ line v.file came) so ∙ ap (λ (x : Visited). lines visits ++ line v.file x) same
    ∙ sym (lines_more visits v)

-- each file may be visited where all may
pub at_of : (P : Watched → Type 0) (files : List Watched) (i : ℕ) (d : Watched) → AllByRecursion P files → i < length files →
    P (get_or files i d)
at_of P [] i d all less = absurd (omega (arith, less))
at_of P (x ∷ files) zero d all less = all.0
at_of P (x ∷ files) (suc i) d all less = at_of P files i d all.1 (omega (arith, less))

-- less is said of a pass that may be stopped
found_less : (whole : Bool) (kept : Option Spot) (found : Option Found) (o : Option (List ℕ)) → IsFoundIn whole kept found o →
    IsFoundIn false kept found o
found_less false kept found o is = is
found_less true kept found None is = is
found_less true kept None (Some bytes) is = tt
found_less true kept (Some found) (Some bytes) is = (is.0, λ e. absurd (false≢true e))

visit_less : (choose : Chooser) (files : Option (List TreeFile)) (close whole : Bool) (h : List TimedCommand) (v : Visit)
    (orders : List TimedCommand) → IsVisited choose files close whole h v orders → IsVisited choose files close false h v orders
visit_less choose files close whole h v orders is =
    record {
      rest = is.rest;
      commands = is.commands;
      all = λ e. absurd (false≢true e);
      came = λ e. absurd (false≢true e);
      read = is.read;
      told = less files is.told;
    }
  where
    less : (files : Option (List TreeFile)) → IfSome files
        (λ all. IsFoundIn whole (kept_of (state_after choose h) v.file.path) v.found (bytes_at all v.file.path)) →
        IfSome files (λ all. IsFoundIn false (kept_of (state_after choose h) v.file.path) v.found (bytes_at all v.file.path))
    less None t = tt
    less (Some all) t = found_less whole (kept_of (state_after choose h) v.file.path) v.found (bytes_at all v.file.path) t

pub visits_less : (choose : Chooser) (files : Option (List TreeFile)) (close whole : Bool) (h : List TimedCommand) (visits : List Visit)
    (orders : List TimedCommand) →
    AreVisited choose files close whole h visits orders → AreVisited choose files close false h visits orders
visits_less choose files close whole h [] orders are = are
visits_less choose files close whole h (v ∷ []) orders are = visit_less choose files close whole h v orders are
visits_less choose files close whole h (v ∷ next ∷ visits) orders are =
    (are.0, are.1, are.2, are.3, visits_less choose files close whole (with_all choose h are.0) (next ∷ visits) are.1 are.4)

-- histories with commands
pub given_is : (choose : Chooser) (h orders : List TimedCommand) → given_all choose h orders ≡ with_all choose h orders
given_is choose h [] = refl
given_is choose h (o ∷ orders) = given_is choose (with_order choose h o) orders
