-- Copies of what a pattern was written out to.
use Rattle.std.proofs.Common.{◌*◌, ℕ, List, Option, length, sym, ◌∙◌, ap, subst}
use Rattle.ix_pattern.specs.Rows.{Rows, tree}
use Rattle.ix_pikevm.specs.Code.{IsCode, HasSets}
use Rattle.ix_pikevm.specs.Looks.{HasNoLook}
use Rattle.ix_pikevm.specs.Acts.{AllKnown}
use Rattle.ix_pikevm.specs.Ran.{AreMarks, IsOf}
use Rattle.ix_pikevm.specs.Programs.{IsProgram, AreAsks, AllAsked, AsksFit}
use Rattle.ix_pikevm.specs.Written.{IsWritten}
use Rattle.ix_pikevm.specs.Tests.{IsTable}
use Rattle.ix_pikevm.specs.Finders.{IsFinder, HasRoom, IsSameProgram, IsSameFinder}
use Rattle.ix_pikevm.specs.Attempts.{so_far, Lasts, IsAttemptOn}
use Rattle.ix_pikevm.specs.declared.program.Program.{Program}
use Rattle.ix_pikevm.specs.declared.matcher.Matcher.{Matcher}
use Rattle.ix_pikevm.specs.declared.matcher_ref.Scratch.{Scratch}
use Rattle.ix_pikevm.specs.declared.attempt.Attempt.{Attempt}

same-written : (rows : Rows) (program copy : Program) → IsSameProgram program copy → IsWritten rows program → IsWritten rows copy
same-written rows program copy s w =
    record {
      code = subst (λ c. IsProgram rows (tree rows) c copy.start) (sym s.code)
          (subst (λ n. IsProgram rows (tree rows) program.code.items n) (sym s.start) w.code);
      asked = subst (λ a. AllAsked a copy.code.items) (sym s.asks) (subst (AllAsked program.asks.items) (sym s.code) w.asked);
      asks = subst (λ i. AreAsks rows i copy.asks.items) (sym s.inner) (subst (AreAsks rows program.inner.items) (sym s.asks) w.asks);
      fit = subst (λ a. AsksFit a (length copy.inner.items) (length rows)) (sym s.asks)
          (subst (λ i. AsksFit program.asks.items (length i) (length rows)) (sym s.inner) w.fit);
      inner = subst IsCode (sym s.inner) w.inner;
      insides = subst (HasSets (length rows)) (sym s.inner) w.insides;
      plain = subst HasNoLook (sym s.inner) w.plain;
    }

pub same-finder : (rows : Rows) (finder copy : Matcher) → IsSameFinder finder copy → IsFinder rows finder → IsFinder rows copy
same-finder rows finder copy s f =
    record {
      program = same-written rows finder.program copy.program s.program f.program;
      all = ap length s.table ∙ f.all ∙ ap (λ n. 256 * n) (sym s.width);
      table = subst (λ t. IsTable t copy.width rows) (sym s.table) (subst (λ n. IsTable finder.table.items n rows) (sym s.width) f.table);
    }

pub same-room : (finder copy : Matcher) (room : Scratch) → IsSameFinder finder copy → HasRoom finder room → HasRoom copy room
same-room finder copy room s r =
    record {
      main = subst (λ c. AreMarks room.main.marks.items (length c) room.main.stamp) (sym s.program.code) r.main;
      inner = subst (λ c. AreMarks room.inner.marks.items (length c) room.inner.stamp) (sym s.program.inner) r.inner;
      looks = subst (λ a. AsksFit a (length copy.program.inner.items) (length room.looks.items)) (sym s.program.asks)
          (subst (λ i. AsksFit finder.program.asks.items (length i) (length room.looks.items)) (sym s.program.inner) r.looks);
    }

pub same-stands : (rows : Rows) (program copy : Program) (attempt : Attempt) (before : Option ℕ) (bytes : List ℕ) →
    IsSameProgram program copy →
    IsAttemptOn rows program attempt before bytes → IsAttemptOn rows copy attempt before bytes
same-stands rows program copy attempt before bytes s t =
    record {
      within = t.within;
      known = subst (λ c. AllKnown (length c) (length attempt.cells.items) attempt.threads.items) (sym s.code) t.known;
      lasts = subst (λ c. Lasts (IsOf rows) c (so_far before bytes) copy.start attempt.place attempt.cells.items attempt.threads.items
          attempt.best) (sym s.code)
          (subst (λ n. Lasts (IsOf rows) program.code.items (so_far before bytes) n attempt.place attempt.cells.items attempt.threads.items
          attempt.best) (sym s.start) t.lasts);
    }
