-- What was worked out of indexes and files, of channels, and of settings and spots leads, joined,
-- to the state behind the command.
use Rattle.std.proofs.Common.{◌≡◌, ◌≤◌, ℕ, ℤ, List, [], ◌∷◌, ◌++◌, refl, sym, ap, ap₂, ◌∙◌, subst, append_assoc}
use Rattle.std.specs.Prelude.{pos, ◌≤ℤ◌, Option, Some, None}
use Rattle.std.specs.List.{AllZip}
use Rattle.ix_base.specs.Clocks as clocks
use Rattle.ix_base.specs.declared.events.Spot.{Spot}
use Rattle.ix_manifest.specs.Book.{NamedItems, NoneUnder, named, replay}
use Rattle.ix_parse.specs.Form.{IsMoment}
use Rattle.ix_channels.specs.Changes.{changed}
use Rattle.ix_channels.specs.Working.{MayBeDone, IsWorked, StaysWithin}
use Rattle.ix_channels.specs.declared.change.ChannelChange.{ChannelChange}
use Rattle.ix_channels.specs.declared.change.ChannelChange.TheVariants.{Same}
use Rattle.ix_channels.specs.declared.channel_effect.ChannelEffect.{ChannelEffect}
use Rattle.ix_items.specs.declared.items.Item.{Item}
use Rattle.ix_items.specs.declared.items.Item.TheVariants as items
use Rattle.ix_commit.specs.Contents.{Contents}
use Rattle.ix_commit.specs.Drafts.{AreFit, AreFitCopies, with_pieces, with_copies}
use Rattle.ix_commit.specs.Snapshot.{Forgets}
use Rattle.ix_commit.specs.declared.file_copy.FileCopy.{FileCopy}
use Rattle.ix_commit.specs.declared.write_batch.Append.{Append}
use Rattle.ix_state.specs.Taken.{IsTakenCommand}
use Rattle.ix_model.specs.Bounds.{KeepsBounds}
use Rattle.ix_model.specs.Given.{Chooser}
use Rattle.ix_model.specs.Judged as machine
use Rattle.ix_model.specs.State.{State, empty}
use Rattle.ix_model.specs.Step.{state_after, effective, step, stepped, channels, spots, with_spot}
use Rattle.ix_model.specs.declared.commands.Command.{Command}
use Rattle.ix_model.specs.declared.commands.Command.TheVariants.{Begin, Block, End, Tick, Roll, Thaw, Configure, Direct}
use Rattle.ix_model.specs.declared.commands.TimedCommand.{TimedCommand}
use Rattle.ix_model.proofs.Following.{after_more}
use Rattle.ix_model.proofs.Moments.{moments_after}
use Rattle.ix_effects.specs.Moving.{IsMoved}
use Rattle.ix_effects.specs.declared.catalog_effect.CatalogEffect.{CatalogEffect}
use Rattle.ix_model.specs.Contents.{contents_of}
use Rattle.ix_model.specs.Said.{shelf_items, channel_items, spot_items, settings_items, moment_items, command_items}
use Rattle.ix_model.specs.Snap.{snapshot_of}
use Rattle.ix_model.proofs.BooksLeading.{books_lead, runs_are_left}
use Rattle.ix_state.specs.Held.{IsOpen, SeesChannels}
use Rattle.ix_state.specs.declared.state.StoreState.{StoreState}
use Rattle.ix_store.proofs.Booked.{left_contents}
use Rattle.ix_apply.specs.Settings.{config_for, spots_for}
use Rattle.ix_apply.specs.Steps.{MayCome, SeesConfig, IsStep, order_of, Steps, IsBeside, IsStill, moments_of, step_with, no_beside}
use Rattle.ix_apply.specs.declared.effect.Beside.{Beside}
use Rattle.ix_apply.specs.declared.effect.Effect.{Effect}
use Rattle.ix_apply.specs.declared.context.CommandContext.{CommandContext}

-- ---- one command more

pub after_one : (choose : Chooser) (history : List TimedCommand) (order : TimedCommand) →
    state_after choose (history ++ order ∷ []) ≡ step choose (state_after choose history) order
after_one choose history order = after_more choose empty history (order ∷ [])

pub stepped_at : (choose : Chooser) (history : List TimedCommand) (order : TimedCommand) (moment : ℤ) →
    moment ≡ effective (state_after choose history).last order.moment →
    stepped choose (state_after choose history) order.command moment ≡ state_after choose (history ++ order ∷ [])
stepped_at choose history order moment e =
    ap (λ (t : ℤ). stepped choose (state_after choose history) order.command t) e ∙ sym (after_one choose history order)

in_range : (choose : Chooser) (history : List TimedCommand) (order : TimedCommand) (moment : ℤ) →
    moment ≡ effective (state_after choose history).last order.moment → IsMoment moment
in_range choose history order moment e =
    let h = moments_after choose (history ++ order ∷ []) in
    let is : (state_after choose (history ++ order ∷ [])).last ≡ moment = ap (λ (m : State). m.last) (after_one choose history order)
    ∙ sym e in
    subst (λ (z : ℤ). IsMoment z) is (h.from_start, h.to_end)

pub may_be_done : (choose : Chooser) (history : List TimedCommand) (command : Command) (given : ℤ) (w : CommandContext) →
    MayCome choose history (order_of command given) w →
    MayBeDone choose history command w.moment w.held.now
may_be_done choose history command given w h = record {
  chooser = h.stands.chooser;
  taken = h.taken;
  sees = h.stands.channels;
  no_cause = h.no_cause;
  in_range = in_range choose history (order_of command given) w.moment h.moment_is;
}

pub stays_within : (choose : Chooser) (history : List TimedCommand) (command : Command) (given : ℤ) (w : CommandContext) →
    MayCome choose history (order_of command given) w →
    KeepsBounds (state_after choose history) → KeepsBounds (state_after choose (history ++ order_of command given ∷ [])) →
    StaysWithin choose history command w.moment
stays_within choose history command given w h before behind = record {
  before = before;
  behind = subst KeepsBounds (sym (stepped_at choose history (order_of command given) w.moment h.moment_is)) behind;
}

-- ---- settings and spots

config_seen : (choose : Chooser) (m : State) (command : Command) (moment : ℤ) (held : StoreState) → SeesChannels m held →
    IsTakenCommand command →
    SeesConfig (stepped choose m command moment) (config_for held.config command)
config_seen choose m (Begin channel meta) moment held s t = record { kept = s.kept; set = s.set; sound = s.config }
config_seen choose m (Block channel bytes spot) moment held s t = record { kept = s.kept; set = s.set; sound = s.config }
config_seen choose m (End channel) moment held s t = record { kept = s.kept; set = s.set; sound = s.config }
config_seen choose m Tick moment held s t = record { kept = s.kept; set = s.set; sound = s.config }
config_seen choose m (Roll index) moment held s t = record { kept = s.kept; set = s.set; sound = s.config }
config_seen choose m (Thaw index id) moment held s t = record { kept = s.kept; set = s.set; sound = s.config }
config_seen choose m (Configure config) moment held s t = record { kept = refl; set = t.limits; sound = t }
config_seen choose m (Direct events) moment held s t = record { kept = s.kept; set = s.set; sound = s.config }

spots_seen : (m : State) (command : Command) (held : List Spot) → held ≡ m.spots → spots_for held command ≡ spots m command
spots_seen m (Begin channel meta) held e = e
spots_seen m (Block channel bytes spot) held e = ap (λ (xs : List Spot). with_spot xs spot) e
spots_seen m (End channel) held e = e
spots_seen m Tick held e = e
spots_seen m (Roll index) held e = e
spots_seen m (Thaw index id) held e = e
spots_seen m (Configure config) held e = e
spots_seen m (Direct events) held e = e

-- ---- the items

items_joined : (moved said beside : List Item) (x y : Item) (shelves channels spot settings : List Item) → moved ≡ shelves →
    said ≡ channels →
    beside ≡ spot ++ settings → x ≡ y →
    moved ++ (said ++ (beside ++ x ∷ [])) ≡ shelves ++ (channels ++ (spot ++ (settings ++ y ∷ [])))
items_joined moved said beside x y shelves channels spot settings a b c d =
    ap (λ (l : List Item). l ++ (said ++ (beside ++ x ∷ []))) a
    ∙ (ap (λ (l : List Item). shelves ++ (l ++ (beside ++ x ∷ []))) b
    ∙ (ap (λ (l : List Item). shelves ++ (channels ++ (l ++ x ∷ []))) c
    ∙ (ap (λ (l : List Item). shelves ++ (channels ++ l)) (append_assoc spot settings (x ∷ []))
    ∙ ap (λ (i : Item). shelves ++ (channels ++ (spot ++ (settings ++ i ∷ [])))) d)))

-- ---- the files

abbrev Files : Contents → List Append → List FileCopy → Contents → Contents → Type 0
Files old pieces copies from to =
    AreFit from pieces × AreFitCopies old (with_pieces pieces from) copies × Forgets (with_copies copies (with_pieces pieces from)) to

-- ---- all of it

pub step_of : (choose : Chooser) (history : List TimedCommand) (order : TimedCommand) (held : StoreState) (moment : ℤ)
    (change : ChannelChange) (said : List Item) (moved : CatalogEffect) (b : Beside) →
    SeesChannels (state_after choose history) held → IsTakenCommand order.command →
    moment ≡ effective (state_after choose history).last order.moment →
    AllZip IsOpen (state_after choose (history ++ order ∷ [])).channels (changed change held.channels.items) →
    said ≡ channel_items (state_after choose history) order.command (state_after choose (history ++ order ∷ [])) →
    IsMoved choose history order held.view.ledger moment moved → IsBeside order.command held b →
    IsStep choose history order held (step_with moved change said b)
step_of choose history order held moment change said moved b s t e opens saying leads beside =
    let m : State = state_after choose history in
    let later : State = state_after choose (history ++ order ∷ []) in
    let one : later ≡ step choose m order = after_one choose history order in
    let is : (step_with moved change said b).draft.items ≡ command_items m order.command later =
    items_joined moved.items said b.items (moments_of moved.storage) (items.Moments later.last later.tick)
    (shelf_items m later) (channel_items m order.command later) (spot_items order.command) (settings_items order.command)
    leads.items_are saying beside.items_are (ap₂ (λ (x y : ℤ). items.Moments x y) leads.storage.last_is leads.storage.tick_is) in
    record {
      config = subst (SeesConfig later) (sym beside.config_is)
          (subst (λ (n : State). SeesConfig n (config_for held.config order.command)) (sym one)
          (config_seen choose m order.command (effective m.last order.moment) held s t));
      channels = opens;
      spots_are = beside.spots_are ∙ (spots_seen m order.command held.spots.items s.spots ∙ ap (λ (n : State). n.spots) (sym one));
      rest = leads.storage;
      leads = λ old none.
          (let f = subst (λ (from : Contents). Files old.contents moved.pieces moved.copies from
          (snapshot_of choose (history ++ order ∷ [])).contents) (sym (left_contents choose history))
          (subst (Files old.contents moved.pieces moved.copies (contents_of m.catalog)) (sym (left_contents choose (history ++ order ∷ [])))
          (leads.files old.contents none)) in
          record {
            leads = record {
              pieces = f.0;
              copies = f.1;
              items = books_lead choose history order ∙ ap (λ (l : List Item). replay l (snapshot_of choose history).book) (sym is);
              contents = f.2;
            };
            run = subst (NoneUnder (named 2 [] 0)) (sym is) (runs_are_left m later order.command [] 0).0;
          });
      done = leads.done;
      let_go = leads.let_go;
      many = leads.moved_are ∙ ap (λ (z : ℤ). machine.moved m order.command z) e;
    }

-- ---- where channels are worked out

pub worked_steps : (choose : Chooser) (history : List TimedCommand) (command : Command) (given : ℤ) (w : CommandContext)
    (worked : ChannelEffect) (moved : CatalogEffect) (b : Beside) →
    MayCome choose history (order_of command given) w → IsWorked choose history command w.moment w.held.now worked →
    IsMoved choose history (order_of command given) w.held.now.view.ledger w.moment moved → IsBeside command w.held.now b →
    IsStep choose history (order_of command given) w.held.now (step_with moved worked.change worked.items b)
worked_steps choose history command given w worked moved b h k l beside =
    let at = stepped_at choose history (order_of command given) w.moment h.moment_is in
    step_of choose history (order_of command given) w.held.now w.moment worked.change worked.items moved b
    h.stands.channels h.taken h.moment_is
    (subst (λ (n : State). AllZip IsOpen n.channels (changed worked.change w.held.now.channels.items)) at k.channels)
    (k.items ∙ ap (λ (n : State). channel_items (state_after choose history) command n) at)
    l beside

-- ---- where channels, settings and spots stay as they are

still_channels : (choose : Chooser) (m : State) (command : Command) (moment : ℤ) → IsStill command →
    channels choose m command moment ≡ m.channels
still_channels choose m (Begin channel meta) moment h = absurd h
still_channels choose m (Block channel bytes spot) moment h = absurd h
still_channels choose m (End channel) moment h = absurd h
still_channels choose m Tick moment h = refl
still_channels choose m (Roll index) moment h = refl
still_channels choose m (Thaw index id) moment h = refl
still_channels choose m (Configure config) moment h = absurd h
still_channels choose m (Direct events) moment h = absurd h

still_items : (m later : State) (command : Command) → IsStill command → [] ≡ channel_items m command later
still_items m later (Begin channel meta) h = absurd h
still_items m later (Block channel bytes spot) h = absurd h
still_items m later (End channel) h = absurd h
still_items m later Tick h = refl
still_items m later (Roll index) h = refl
still_items m later (Thaw index id) h = refl
still_items m later (Configure config) h = absurd h
still_items m later (Direct events) h = absurd h

still_beside : (command : Command) (held : StoreState) → IsStill command → IsBeside command held no_beside
still_beside (Begin channel meta) held h = absurd h
still_beside (Block channel bytes spot) held h = absurd h
still_beside (End channel) held h = absurd h
still_beside Tick held h = record { items_are = refl; config_is = refl; spots_are = refl }
still_beside (Roll index) held h = record { items_are = refl; config_is = refl; spots_are = refl }
still_beside (Thaw index id) held h = record { items_are = refl; config_is = refl; spots_are = refl }
still_beside (Configure config) held h = absurd h
still_beside (Direct events) held h = absurd h

pub still_steps : (choose : Chooser) (history : List TimedCommand) (command : Command) (given : ℤ) (w : CommandContext)
    (moved : CatalogEffect) → IsStill command →
    MayCome choose history (order_of command given) w →
    IsMoved choose history (order_of command given) w.held.now.view.ledger w.moment moved →
    IsStep choose history (order_of command given) w.held.now (step_with moved Same [] no_beside)
still_steps choose history command given w moved still h l =
    let m : State = state_after choose history in
    let order : TimedCommand = order_of command given in
    let one = after_one choose history order in
    step_of choose history order w.held.now w.moment Same [] moved no_beside
    h.stands.channels h.taken h.moment_is
    (subst (λ (n : State). AllZip IsOpen n.channels w.held.now.channels.items) (sym one)
    (subst (λ (ls : List _). AllZip IsOpen ls w.held.now.channels.items)
    (sym (still_channels choose m command (effective m.last given) still)) h.stands.channels.channels))
    (still_items m (state_after choose (history ++ order ∷ [])) command still)
    l (still_beside command w.held.now still)

-- a command that only deals has nothing beside, but for a spot
pub beside_none : (command : Command) (held : StoreState) → spot_items command ≡ [] → settings_items command ≡ [] →
    config_for held.config command ≡ held.config →
    spots_for held.spots.items command ≡ held.spots.items → IsBeside command held no_beside
beside_none command held a b c d = record {
  items_are = sym (ap₂ (λ (x y : List Item). x ++ y) a b);
  config_is = sym c;
  spots_are = sym d;
}
