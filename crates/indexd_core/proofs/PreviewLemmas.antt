-- Steps of a preview.
use Rattle.std.proofs.Common.{◌≡◌, ℕ, ℤ, Bool, true, false, List, [], ◌∷◌, ◌++◌, length, refl, sym, ◌∙◌, ap, subst, append_assoc, ◌<◌, ◌≤◌}
use Rattle.std.proofs.Common.{inl, inr, arith}
use Rattle.std.specs.Prelude.{if◌then◌else◌, Option, Some, None}
use Rattle.std.proofs.lemmas.Grind.{flat_map-append}
use Rattle.ix_base.specs.Clocks.{clamped}
use Rattle.ix_base.specs.Stream.{Dated, dated}
use Rattle.ix_base.specs.Told.{Told, Took, HasWritten, HasBegun}
use Rattle.indexd_core.specs.declared.prepare.PreparedPreview.{PreparedPreview}
use Rattle.ix_base.specs.declared.events.Routed.{Routed}
use Rattle.ix_base.specs.Faults.{Rose}
use Rattle.ix_base.proofs.ToldLemmas.{then_written, then_begun, nothing_written}
use Rattle.ix_base.specs.declared.events.ChannelMeta.{ChannelMeta}
use Rattle.ix_life.specs.declared.sets.LimitSet.{LimitSet}
use Rattle.ix_props.specs.declared.settings.Settings.{Settings}
use Rattle.ix_parse.specs.declared.channel.Channel.{Channel}
use Rattle.ix_parse.specs.Settled.{outcomes, settled}
use Rattle.ix_parse.specs.Standing.{StandsFor}
use Rattle.indexd_core.specs.Sides.{Side}
use Rattle.indexd_core.specs.Texts.{routed_line, lines_of}
use Rattle.indexd_core.specs.Runs.{text_of, input_limit}
use Rattle.indexd_core.specs.Stops.{PutStops}
use Rattle.indexd_core.specs.Steps.{Holds, IsAt, Advances, StepStops, RunStops, EndsAll, EndStops}
use Rattle.indexd_core.specs.declared.preview.Preview.{Preview}
use Rattle.indexd_core.specs.declared.preview.Stop.{Stop}
use Rattle.indexd_core.specs.declared.preview.Stop.TheVariants.{Memory, Input, Output}

-- bytes at one moment, in two parts
pub dated-append : (a b : List ℕ) (m : ℤ) → dated (a ++ b) m ≡ dated a m ++ dated b m
dated-append [] b m = refl
dated-append (x ∷ a) b m = ap (λ l. (x, m) ∷ l) (dated-append a b m)

pub lines_of-append : (limits : LimitSet) (a b : List Routed) → lines_of limits (a ++ b) ≡ lines_of limits a ++ lines_of limits b
lines_of-append limits a b = flat_map-append (routed_line limits) a b

-- the bytes taken, in two parts
pub took-took : (a b : List ℕ) (x y z : Option (List ℕ)) → Told (Took a) x y → Told (Took b) y z → Told (Took (a ++ b)) x z
took-took a b None None None p q = tt
took-took a b None None (Some z) p q = absurd q
took-took a b None (Some y) z p q = absurd p
took-took a b (Some x) None z p q = absurd p
took-took a b (Some x) (Some y) None p q = absurd q
took-took a b (Some x) (Some y) (Some z) p q = p ∙ ap (λ l. a ++ l) q ∙ sym (append_assoc a b z)

-- What a block settles, as text: the text of all bytes is that of the bytes before it and then the
-- lines of its events.
pub text-more : (prepared : PreparedPreview) (m : ℤ) (taken more : List ℕ) (routed : List Routed) →
    settled prepared.settings prepared.meta (dated taken (clamped m) ++ dated more (clamped m)) false
    ≡ settled prepared.settings prepared.meta (dated taken (clamped m)) false ++ routed →
    text_of prepared m (taken ++ more) false ≡ text_of prepared m taken false ++ lines_of prepared.limits routed
text-more prepared m taken more routed e =
    ap (λ s. lines_of prepared.limits (settled prepared.settings prepared.meta s false)) (dated-append taken more (clamped m))
    ∙ ap (lines_of prepared.limits) e
    ∙ lines_of-append prepared.limits (settled prepared.settings prepared.meta (dated taken (clamped m)) false) routed

-- the same, of lines by the limits of a run
more-by : (prepared : PreparedPreview) (limits : LimitSet) (m : ℤ) (taken more : List ℕ) (routed : List Routed) → limits ≡ prepared.limits →
    settled prepared.settings prepared.meta (dated taken (clamped m) ++ dated more (clamped m)) false
    ≡ settled prepared.settings prepared.meta (dated taken (clamped m)) false ++ routed →
    text_of prepared m (taken ++ more) false ≡ text_of prepared m taken false ++ lines_of limits routed
more-by prepared limits m taken more routed same e =
    text-more prepared m taken more routed e ∙ ap (λ (l : LimitSet). text_of prepared m taken false ++ lines_of l routed) (sym same)

-- what a channel settles of more bytes
abbrev pub Feeds : Channel → Channel → List ℕ → ℤ → List Routed → Type 0
Feeds old new more m routed = (settings : Settings) (meta : ChannelMeta) (stream : List Dated) → StandsFor settings meta stream old →
    StandsFor settings meta (stream ++ dated more (clamped m)) new
    × (settled settings meta (stream ++ dated more (clamped m)) false ≡ settled settings meta stream false ++ routed)

-- a block was taken in and the lines that it settles were written
pub advances : (old new : Preview) (more : List ℕ) (routed : List Routed) (input input' output output' : Side) →
    new.moment ≡ old.moment → new.events.limits ≡ old.events.limits → Told (Took more) input.told input'.told →
    HasWritten (lines_of old.events.limits routed) output.told output'.told →
    Feeds old.channel new.channel more old.moment routed → Advances more old new input input' output output'
advances old new more routed input input' output output' same limits took written feeds = record {
  at = λ prepared input₀ output₀ taken at.
      let f = feeds prepared.settings prepared.meta (dated taken (clamped old.moment)) at.holds.channel in
      let text = more-by prepared old.events.limits old.moment taken more routed at.holds.limits f.1 in
      let whole : dated taken (clamped old.moment) ++ dated more (clamped old.moment) ≡ dated (taken ++ more) (clamped new.moment) =
      sym (dated-append taken more (clamped old.moment)) ∙ ap (λ m. dated (taken ++ more) (clamped m)) (sym same) in
      record {
        holds = record {
          channel = subst (λ (s : List Dated). StandsFor prepared.settings prepared.meta s new.channel) whole f.0;
          limits = limits ∙ at.holds.limits;
        };
        took = took-took taken more input₀.told input.told input'.told at.took took;
        written = subst (λ (x : List ℕ). HasWritten x output₀.told output'.told)
            (sym text ∙ ap (λ m. text_of prepared m (taken ++ more) false) (sym same)) (then_written at.written written);
      };
  moment = same;
}

-- a block was read, and writing its lines stopped
pub stops : (stop : Stop) (old : Preview) (next : Channel) (more : List ℕ) (routed : List Routed) (input input' output output' : Side) →
    Told (Took more) input.told input'.told → Feeds old.channel next more old.moment routed →
    PutStops stop (lines_of old.events.limits routed) output output' → StepStops stop old input input' output output'
stops Memory old next more routed input input' output output' took feeds put = record { more = more; took = took; same = put }
stops Input old next more routed input input' output output' took feeds put = absurd put
stops Output old next more routed input input' output output' took feeds put = (
  put.0,
  record {
    more = more;
    took = took;
    begun = λ prepared input₀ output₀ taken at.
        let f = feeds prepared.settings prepared.meta (dated taken (clamped old.moment)) at.holds.channel in
        subst (λ (x : List ℕ). HasBegun x output₀.told output'.told)
        (sym (more-by prepared old.events.limits old.moment taken more routed at.holds.limits f.1))
        (then_begun at.written put.1);
  },
)

pub took-nothing : (x : Option (List ℕ)) → Told (Took []) x x
took-nothing None = tt
took-nothing (Some x) = refl

-- nothing is settled of nothing, whether lines are merged or not
by-nothing : {A : Type 0} (on : Bool) (text : List A → List ℕ) → text [] ≡ [] → text (if on then [] else []) ≡ []
by-nothing true text e = e
by-nothing false text e = e

pub text-of-nothing : (prepared : PreparedPreview) (m : ℤ) → text_of prepared m [] false ≡ []
text-of-nothing prepared m =
    by-nothing prepared.settings.merge.on (λ events. lines_of prepared.limits (outcomes prepared.settings prepared.meta None events)) refl

pub nothing-shown : (prepared : PreparedPreview) (m : ℤ) (told : Option (List ℕ)) → HasWritten (text_of prepared m [] false) told told
nothing-shown prepared m told = subst (λ (x : List ℕ). HasWritten x told told) (sym (text-of-nothing prepared m)) (nothing_written told)

-- at the start
pub starts : (prepared : PreparedPreview) (preview : Preview) (input output : Side) → Holds prepared [] preview →
    IsAt prepared input output [] preview input output
starts prepared preview input output holds =
    record { holds = holds; took = took-nothing input.told; written = nothing-shown prepared preview.moment output.told }

-- a count that rose has risen since an earlier time, and until a later one
pub rose-since : (a b c : ℕ) → a ≤ b → Rose b c → Rose a c
rose-since a b c le (inl lt) = inl (omega arith)
rose-since a b c le (inr full) = inr full

pub rose-until : (a b c : ℕ) → Rose a b → b ≤ c → Rose a c
rose-until a b c (inl lt) le = inl (omega arith)
rose-until a b c (inr full) le = inr (omega arith)

-- a step stopped, and so the run
pub run-stops : (stop : Stop) (prepared : PreparedPreview) (old : Preview) (m : ℤ) (taken : List ℕ)
    (input input₁ input' output output₁ output' : Side) →
    old.moment ≡ m → length taken < input_limit → input.faults ≤ input₁.faults → output.faults ≤ output₁.faults →
    IsAt prepared input output taken old input₁ output₁ → StepStops stop old input₁ input' output₁ output' →
    RunStops stop (text_of prepared m) input input' output output'
run-stops Memory prepared old m taken input input₁ input' output output₁ output' same short rl wl at stop = record {
  taken = taken;
  more = stop.more;
  took = took-took taken stop.more input.told input₁.told input'.told at.took stop.took;
  written = subst (λ (z : ℤ). HasWritten (text_of prepared z taken false) output.told output'.told) same
      (subst (λ (x : Option (List ℕ)). HasWritten (text_of prepared old.moment taken false) output.told x) (sym stop.same) at.written);
}
run-stops Input prepared old m taken input input₁ input' output output₁ output' same short rl wl at stop = (
  rose-since input.faults input₁.faults input'.faults rl stop.0,
  record {
    taken = taken;
    took = subst (λ (x : Option (List ℕ)). Told (Took taken) input.told x) (sym stop.1) at.took;
    within = short;
    written = subst (λ (z : ℤ). HasWritten (text_of prepared z taken false) output.told output'.told) same
        (subst (λ (x : Option (List ℕ)). HasWritten (text_of prepared old.moment taken false) output.told x) (sym stop.2) at.written);
  },
)
run-stops Output prepared old m taken input input₁ input' output output₁ output' same short rl wl at stop = (
  rose-since output.faults output₁.faults output'.faults wl stop.0,
  record {
    taken = taken ++ stop.1.more;
    took = took-took taken stop.1.more input.told input₁.told input'.told at.took stop.1.took;
    begun = subst (λ (z : ℤ). HasBegun (text_of prepared z (taken ++ stop.1.more) false) output.told output'.told) same
        (stop.1.begun prepared input output taken at);
  },
)

-- what the end settles, as text
pub text-end : (prepared : PreparedPreview) (limits : LimitSet) (m : ℤ) (taken : List ℕ) (routed : List Routed) → limits ≡ prepared.limits →
    settled prepared.settings prepared.meta (dated taken (clamped m)) true
    ≡ settled prepared.settings prepared.meta (dated taken (clamped m)) false ++ routed →
    text_of prepared m taken true ≡ text_of prepared m taken false ++ lines_of limits routed
text-end prepared limits m taken routed same e =
    ap (lines_of prepared.limits) e
    ∙ lines_of-append prepared.limits (settled prepared.settings prepared.meta (dated taken (clamped m)) false) routed
    ∙ ap (λ (l : LimitSet). text_of prepared m taken false ++ lines_of l routed) (sym same)

-- what a channel settles at its end
abbrev pub Closes : Channel → List Routed → Type 0
Closes channel routed = (settings : Settings) (meta : ChannelMeta) (stream : List Dated) → StandsFor settings meta stream channel →
    settled settings meta stream true ≡ settled settings meta stream false ++ routed

pub ends-all : (preview : Preview) (routed : List Routed) (output output' : Side) → Closes preview.channel routed →
    HasWritten (lines_of preview.events.limits routed) output.told output'.told → EndsAll preview output output'
ends-all preview routed output output' closes written = λ prepared input₀ output₀ input taken at.
    subst (λ (x : List ℕ). HasWritten x output₀.told output'.told)
    (sym (text-end prepared preview.events.limits preview.moment taken routed at.holds.limits
    (closes prepared.settings prepared.meta (dated taken (clamped preview.moment)) at.holds.channel)))
    (then_written at.written written)

pub end-stops : (stop : Stop) (preview : Preview) (routed : List Routed) (output output' : Side) →
    Closes preview.channel routed → PutStops stop (lines_of preview.events.limits routed) output output' →
    EndStops stop preview output output'
end-stops Memory preview routed output output' closes put = put
end-stops Input preview routed output output' closes put = put
end-stops Output preview routed output output' closes put = (
  put.0,
  λ prepared input₀ output₀ input taken at.
      subst (λ (x : List ℕ). HasBegun x output₀.told output'.told)
      (sym (text-end prepared preview.events.limits preview.moment taken routed at.holds.limits
      (closes prepared.settings prepared.meta (dated taken (clamped preview.moment)) at.holds.channel)))
      (then_begun at.written put.1),
)
