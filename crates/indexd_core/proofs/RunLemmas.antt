-- A run of a preview, by how it ends.
use Rattle.std.proofs.Common.{◌≡◌, ◌≤◌, ℕ, ℤ, true, false, List, [], ◌++◌, refl, sym, subst}
use Rattle.std.specs.Prelude.{Option}
use Rattle.ix_base.specs.Told.{HasWritten, HasBegun}
use Rattle.indexd_core.specs.declared.prepare.PreparedPreview.{PreparedPreview}
use Rattle.std.proofs.lemmas.List.{append-nil}
use Rattle.indexd_core.specs.Sides.{Side}
use Rattle.indexd_core.specs.Steps.{ReadsAll, RunStops, EndsAll, EndStops}
use Rattle.indexd_core.specs.Stops.{stop_status}
use Rattle.indexd_core.specs.Runs.{Runs, Text, text_of}
use Rattle.indexd_core.specs.declared.preview.Preview.{Preview}
use Rattle.indexd_core.specs.declared.preview.Stop.{Stop}
use Rattle.indexd_core.specs.declared.preview.Stop.TheVariants as stop
use Rattle.indexd_core.specs.declared.status.Status.TheVariants as status
use Rattle.indexd_core.proofs.PreviewLemmas.{took-nothing, nothing-shown, rose-since}

-- there was no room at the start
pub no-room : (prepared : PreparedPreview) (m : ℤ) (input output : Side) → output.faults ≤ output.faults →
    Runs status.Memory (text_of prepared m) input input output output
no-room prepared m input output later = record {
  taken = [];
  took = took-nothing input.told;
  later = later;
  outcome = ([], record { rest = []; whole_is = refl }, nothing-shown prepared m output.told);
}

-- reading stopped
pub stopped : (s : Stop) (text : Text) (input input' output output' : Side) → output.faults ≤ output'.faults →
    RunStops s text input input' output output' → Runs (stop_status s) text input input' output output'
stopped stop.Memory text input input' output output' later s = record {
  taken = s.taken ++ s.more;
  took = s.took;
  later = later;
  outcome = (s.taken, record { rest = s.more; whole_is = refl }, s.written);
}
stopped stop.Input text input input' output output' later s = record {
  taken = s.1.taken;
  took = s.1.took;
  later = later;
  outcome = (s.0, s.1.within, s.1.written);
}
stopped stop.Output text input input' output output' later s = record {
  taken = s.1.taken;
  took = s.1.took;
  later = later;
  outcome = (false, λ is. (cc), s.0, s.1.begun);
}

-- the limit was taken
pub endless : (prepared : PreparedPreview) (new : Preview) (m : ℤ) (input input' output output' : Side) → output.faults ≤ output'.faults →
    new.moment ≡ m → ReadsAll false prepared new input input' output output' →
    Runs status.Endless (text_of prepared m) input input' output output'
endless prepared new m input input' output output' later same r = record {
  taken = r.taken;
  took = r.at.took;
  later = later;
  outcome = (r.end, subst (λ (z : ℤ). HasWritten (text_of prepared z r.taken false) output.told output'.told) same r.at.written);
}

-- the input came to its end, and all was written
pub done : (prepared : PreparedPreview) (new : Preview) (m : ℤ) (input input' output output₁ output' : Side) →
    output.faults ≤ output'.faults →
    new.moment ≡ m → ReadsAll true prepared new input input' output output₁ → EndsAll new output₁ output' →
    Runs status.Done (text_of prepared m) input input' output output'
done prepared new m input input' output output₁ output' later same r ends = record {
  taken = r.taken;
  took = r.at.took;
  later = later;
  outcome = (
    r.end.1,
    r.end.0,
    subst (λ (z : ℤ). HasWritten (text_of prepared z r.taken true) output.told output'.told) same
        (ends prepared input output input' r.taken r.at),
  );
}

-- the input came to its end, and then the run stopped
pub stopped-at-end : (s : Stop) (prepared : PreparedPreview) (new : Preview) (m : ℤ) (input input' output output₁ output' : Side) →
    output.faults ≤ output₁.faults → output.faults ≤ output'.faults → new.moment ≡ m →
    ReadsAll true prepared new input input' output output₁ → EndStops s new output₁ output' →
    Runs (stop_status s) (text_of prepared m) input input' output output'
stopped-at-end stop.Memory prepared new m input input' output output₁ output' before later same r ends = record {
  taken = r.taken;
  took = r.at.took;
  later = later;
  outcome = (
    r.taken,
    record { rest = []; whole_is = sym (append-nil r.taken) },
    subst (λ (z : ℤ). HasWritten (text_of prepared z r.taken false) output.told output'.told) same
        (subst (λ (x : Option (List ℕ)). HasWritten (text_of prepared new.moment r.taken false) output.told x) (sym ends) r.at.written),
  );
}
stopped-at-end stop.Input prepared new m input input' output output₁ output' before later same r ends = absurd ends
stopped-at-end stop.Output prepared new m input input' output output₁ output' before later same r ends = record {
  taken = r.taken;
  took = r.at.took;
  later = later;
  outcome = (
    true,
    λ is. r.end.1,
    rose-since output.faults output₁.faults output'.faults before ends.0,
    subst (λ (z : ℤ). HasBegun (text_of prepared z r.taken true) output.told output'.told) same
        (ends.1 prepared input output input' r.taken r.at),
  );
}
