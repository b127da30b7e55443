-- What the commands of one life of a channel add is what is settled of its whole stream.
use Rattle.std.proofs.Common.{◌≡◌, ℕ, ℤ, Bool, true, false, List, [], ◌∷◌, ◌++◌, length, drop, refl, sym, ap, ◌∙◌, append_assoc}
use Rattle.std.specs.Prelude.{Option, Some, None, is_some, if◌then◌else◌, bytes_eq}
use Rattle.std.specs.List.{AllByRecursion}
use Rattle.std.specs.Option.{option_map}
use Rattle.std.proofs.Math.Seq.{drop-append_seam}
use Rattle.std.proofs.lemmas.List.{append-nil}
use Rattle.ix_base.specs.Stream.{Dated, dated}
use Rattle.ix_base.specs.declared.events.ChannelMeta.{ChannelMeta}
use Rattle.ix_base.specs.declared.events.Routed.{Routed}
use Rattle.ix_parse.specs.Settled.{settled, SettledStays}
use Rattle.ix_props.specs.declared.settings.Settings.{Settings}
use Rattle.ix_model.specs.Given.{Chooser}
use Rattle.ix_catalog.specs.Lists.{find, change, insert, stands_before}
use Rattle.ix_model.specs.Lives.{said, said_by, brought, streamed, ends, Spares, Joins}
use Rattle.ix_model.specs.State.{State, ChannelHistory, life_name, life_in}
use Rattle.ix_model.specs.Step.{past, longer, block_adds, end_adds, begun, channels, effective, step, after_from}
use Rattle.ix_model.specs.declared.commands.Command.{Command}
use Rattle.ix_model.specs.declared.commands.Command.TheVariants.{Begin, Block, End, Tick, Roll, Thaw, Configure, Direct}
use Rattle.ix_model.specs.declared.commands.TimedCommand.{TimedCommand}
use Rattle.ix_model.proofs.Named.{by_test, same_bytes, bytes_same, find_change, find_put, find_without}

true-false : true ≡ false → ⊥
true-false e = cc

-- the same channel with more bytes
abbrev with_more : List Dated → ChannelHistory → ChannelHistory
with_more more life = record { name = life.name; meta = life.meta; settings = life.settings; stream = life.stream ++ more }

abbrev open_of : ChannelHistory → List Routed
open_of life = settled life.settings life.meta life.stream false

abbrev closed_of : ChannelHistory → List Routed
closed_of life = settled life.settings life.meta life.stream true

-- what stands behind a front
behind : (front rest : List Routed) → drop (length front) (front ++ rest) ≡ rest
behind front rest = drop-append_seam front rest

past_is : (life : ChannelHistory) (routed added : List Routed) → routed ≡ open_of life ++ added → open_of life ++ past life routed ≡ routed
past_is life routed added e =
    ap (λ (l : List Routed). open_of life ++ drop (length (open_of life)) l) e
    ∙ ap (λ (l : List Routed). open_of life ++ l) (behind (open_of life) added) ∙ sym e

blocks : (life : ChannelHistory) → SettledStays life.settings → (bytes : List ℕ) (moment : ℤ) →
    open_of life ++ block_adds bytes moment (Some life) ≡ open_of (with_more (dated bytes moment) life)
blocks life law bytes moment =
    let r = law life.meta life.stream (dated bytes moment) false in past_is life _ r.0 r.1

closes : (life : ChannelHistory) → SettledStays life.settings → open_of life ++ end_adds (Some life) ≡ closed_of life
closes life law =
    let r = law life.meta life.stream [] true in
    past_is life (closed_of life) r.0 (ap (λ (s : List Dated). settled life.settings life.meta s true) (sym (append-nil life.stream)) ∙ r.1)

-- ---- one command

same_life : (life : ChannelHistory) → with_more [] life ≡ life
same_life life = ap (λ (s : List Dated). record { name = life.name; meta = life.meta; settings = life.settings; stream = s })
    (append-nil life.stream)

stays : (m : Option ChannelHistory) (life : ChannelHistory) → m ≡ Some life → m ≡ Some (with_more [] life)
stays m life e = e ∙ ap (λ (l : ChannelHistory). Some l) (sym (same_life life))

some_is : (o : Option ChannelHistory) (life : ChannelHistory) → o ≡ Some life → is_some o ≡ true
some_is o life e = ap is_some e

begins : (choose : Chooser) (m : State) (life : ChannelHistory) (name channel : List ℕ) (meta : ChannelMeta) → life_in m name ≡ Some life →
    (o : Option ChannelHistory) → life_in m channel ≡ o →
    find life_name name (if is_some o then m.channels else insert life_name (begun choose m.force channel meta) m.channels) ≡ Some life
begins choose m life name channel meta at (Some other) e = at
begins choose m life name channel meta at None e =
    find_put life_name (stands_before life_name) name (begun choose m.force channel meta) m.channels e
    ∙ by_test (bytes_eq channel name)
    (λ t. absurd (true-false (sym (some_is (life_in m channel) life (ap (life_in m) (same_bytes channel name t) ∙ at)) ∙ ap is_some e)))
    (λ t. rw t at)

grows : (m : State) (life : ChannelHistory) (name channel bytes : List ℕ) (moment : ℤ) → life_in m name ≡ Some life → (b : Bool) →
    bytes_eq channel name ≡ b →
    find life_name name (change life_name channel (longer bytes moment) m.channels)
    ≡ Some (with_more (if b then dated bytes moment else []) life)
grows m life name channel bytes moment at true e =
    find_change life_name channel name (longer bytes moment) (λ l. refl) m.channels ∙ rw e (ap (option_map (longer bytes moment)) at)
grows m life name channel bytes moment at false e =
    find_change life_name channel name (longer bytes moment) (λ l. refl) m.channels ∙ rw e (stays _ life at)

lives : (choose : Chooser) (m : State) (life : ChannelHistory) (name : List ℕ) (command : Command) (moment : ℤ) →
    life_in m name ≡ Some life → ends command name ≡ false →
    find life_name name (channels choose m command moment) ≡ Some (with_more (brought command moment name) life)
lives choose m life name (Begin channel meta) moment at e =
    stays _ life (begins choose m life name channel meta at (life_in m channel) refl)
lives choose m life name (Block channel bytes spot) moment at e = grows m life name channel bytes moment at (bytes_eq channel name) refl
lives choose m life name (End channel) moment at e = stays _ life (find_without life_name channel name m.channels e ∙ at)
lives choose m life name Tick moment at e = stays _ life at
lives choose m life name (Roll index) moment at e = stays _ life at
lives choose m life name (Thaw index id) moment at e = stays _ life at
lives choose m life name (Configure config) moment at e = absurd (true-false e)
lives choose m life name (Direct events) moment at e = stays _ life at

nothing_said : (life : ChannelHistory) → open_of life ++ [] ≡ open_of (with_more [] life)
nothing_said life = append-nil (open_of life) ∙ ap open_of (sym (same_life life))

says_block : (m : State) (life : ChannelHistory) (name channel bytes : List ℕ) (moment : ℤ) → SettledStays life.settings →
    life_in m name ≡ Some life →
    (b : Bool) → bytes_eq channel name ≡ b →
    open_of life ++ (if b then block_adds bytes moment (life_in m channel) else []) ≡ open_of
    (with_more (if b then dated bytes moment else []) life)
says_block m life name channel bytes moment law at true e =
    ap (λ (o : Option ChannelHistory). open_of life ++ block_adds bytes moment o) (ap (life_in m) (same_bytes channel name e) ∙ at)
    ∙ blocks life law bytes moment
says_block m life name channel bytes moment law at false e = nothing_said life

says : (m : State) (life : ChannelHistory) (name : List ℕ) (command : Command) (moment : ℤ) → SettledStays life.settings →
    life_in m name ≡ Some life → ends command name ≡ false →
    open_of life ++ said m command moment name ≡ open_of (with_more (brought command moment name) life)
says m life name (Begin channel meta) moment law at e = nothing_said life
says m life name (Block channel bytes spot) moment law at e =
    says_block m life name channel bytes moment law at (bytes_eq channel name) refl
says m life name (End channel) moment law at e = rw e (nothing_said life)
says m life name Tick moment law at e = nothing_said life
says m life name (Roll index) moment law at e = nothing_said life
says m life name (Thaw index id) moment law at e = nothing_said life
says m life name (Configure config) moment law at e = absurd (true-false e)
says m life name (Direct events) moment law at e = nothing_said life

says_last : (m : State) (life : ChannelHistory) (name : List ℕ) (command : Command) (moment : ℤ) → SettledStays life.settings →
    life_in m name ≡ Some life → ends command name ≡ true →
    open_of life ++ said m command moment name ≡ closed_of life
says_last m life name (Begin channel meta) moment law at e = absurd (true-false (sym e))
says_last m life name (Block channel bytes spot) moment law at e = absurd (true-false (sym e))
says_last m life name (End channel) moment law at e =
    rw e (ap (λ (o : Option ChannelHistory). open_of life ++ end_adds o) (ap (life_in m) (same_bytes channel name e) ∙ at)
    ∙ closes life law)
says_last m life name Tick moment law at e = absurd (true-false (sym e))
says_last m life name (Roll index) moment law at e = absurd (true-false (sym e))
says_last m life name (Thaw index id) moment law at e = absurd (true-false (sym e))
says_last m life name (Configure config) moment law at e = ap (λ (o : Option ChannelHistory). open_of life ++ end_adds o) at
    ∙ closes life law
says_last m life name (Direct events) moment law at e = absurd (true-false (sym e))

-- ---- many commands

with_both : (life : ChannelHistory) (more later : List Dated) → with_more later (with_more more life) ≡ with_more (more ++ later) life
with_both life more later =
    ap (λ (s : List Dated). record { name = life.name; meta = life.meta; settings = life.settings; stream = s })
    (append_assoc life.stream more later)

pub joined : (choose : Chooser) (m : State) (life : ChannelHistory) (name : List ℕ) (history : List TimedCommand) →
    SettledStays life.settings → life_in m name ≡ Some life →
    AllByRecursion (Spares name) history →
    open_of life ++ said_by choose m history name ≡ open_of (with_more (streamed m.last history name) life)
joined choose m life name [] law at spares = nothing_said life
joined choose m life name (o ∷ history) law at spares =
    let moment = effective m.last o.moment in
    let more = brought o.command moment name in
    sym (append_assoc (open_of life) (said m o.command moment name) (said_by choose (step choose m o) history name))
    ∙ ap (λ (l : List Routed). l ++ said_by choose (step choose m o) history name) (says m life name o.command moment law at spares.0)
    ∙ joined choose (step choose m o) (with_more more life) name history law (lives choose m life name o.command moment at spares.0)
    spares.1
    ∙ ap open_of (with_both life more (streamed moment history name))

pub ended : (choose : Chooser) (m : State) (life : ChannelHistory) (name : List ℕ) (history : List TimedCommand) (last : TimedCommand) →
    SettledStays life.settings → life_in m name ≡ Some life →
    AllByRecursion (Spares name) history → ends last.command name ≡ true →
    open_of life ++ said_by choose m (history ++ last ∷ []) name ≡ closed_of (with_more (streamed m.last history name) life)
ended choose m life name [] last law at spares e =
    ap (λ (l : List Routed). open_of life ++ l) (append-nil (said m last.command (effective m.last last.moment) name))
    ∙ says_last m life name last.command (effective m.last last.moment) law at e ∙ ap closed_of (sym (same_life life))
ended choose m life name (o ∷ history) last law at spares e =
    let moment = effective m.last o.moment in
    let more = brought o.command moment name in
    sym (append_assoc (open_of life) (said m o.command moment name) (said_by choose (step choose m o) (history ++ last ∷ []) name))
    ∙ ap (λ (l : List Routed). l ++ said_by choose (step choose m o) (history ++ last ∷ []) name)
    (says m life name o.command moment law at spares.0)
    ∙ ended choose (step choose m o) (with_more more life) name history last law (lives choose m life name o.command moment at spares.0)
    spares.1 e
    ∙ ap closed_of (with_both life more (streamed moment history name))

pub kept_open : (choose : Chooser) (m : State) (life : ChannelHistory) (name : List ℕ) (history : List TimedCommand) →
    life_in m name ≡ Some life → AllByRecursion (Spares name) history →
    life_in (after_from choose m history) name ≡ Some (with_more (streamed m.last history name) life)
kept_open choose m life name [] at spares = stays _ life at
kept_open choose m life name (o ∷ history) at spares =
    let moment = effective m.last o.moment in
    let more = brought o.command moment name in
    kept_open choose (step choose m o) (with_more more life) name history (lives choose m life name o.command moment at spares.0) spares.1
    ∙ ap (λ (l : ChannelHistory). Some l) (with_both life more (streamed moment history name))

-- ---- from the command that begins the channel on

-- of no byte nothing is settled
nothing_yet : (s : Settings) (meta : ChannelMeta) → settled s meta [] false ≡ []
nothing_yet s meta = by s.merge.on
  where
    by : (on : Bool) → settled (record s { merge = record s.merge { on = on } }) meta [] false ≡ []
    by true = refl
    by false = refl

begun_is : (choose : Chooser) (m : State) (name : List ℕ) (meta : ChannelMeta) (o : Option ChannelHistory) → life_in m name ≡ o → o ≡ None →
    find life_name name (if is_some o then m.channels else insert life_name (begun choose m.force name meta) m.channels) ≡ Some
    (begun choose m.force name meta)
begun_is choose m name meta None e none =
    find_put life_name (stands_before life_name) name (begun choose m.force name meta) m.channels e
    ∙ rw (bytes_same name name refl) refl
begun_is choose m name meta (Some life) e none = absurd (some_none none)
  where
    some_none : Some life ≡ None → ⊥
    some_none h = cc

pub joins : (choose : Chooser) (m : State) (history : List TimedCommand) (name : List ℕ) (meta : ChannelMeta) (moment : ℤ) →
    life_in m name ≡ None →
    SettledStays (begun choose m.force name meta).settings → AllByRecursion (Spares name) history →
    Joins choose (step choose m (record { command = Begin name meta; moment = moment })) (begun choose m.force name meta) history
joins choose m history name meta moment none law spares =
    let life = begun choose m.force name meta in
    let from = step choose m (record { command = Begin name meta; moment = moment }) in
    let at : life_in from name ≡ Some life = begun_is choose m name meta (life_in m name) refl none in
    let nothing : open_of life ≡ [] = nothing_yet life.settings life.meta in
    record {
      added = sym (ap (λ (l : List Routed). l ++ said_by choose from history name) nothing)
          ∙ joined choose from life name history law at spares;
      added_closed = λ last e. sym (ap (λ (l : List Routed). l ++ said_by choose from (history ++ last ∷ []) name) nothing)
          ∙ ended choose from life name history last law at spares e;
      is_open = kept_open choose from life name history at spares;
    }
