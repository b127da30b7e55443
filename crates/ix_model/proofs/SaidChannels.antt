-- What a command says of channels is all that it changes of them in the book.
use Rattle.std.proofs.Common.{◌≡◌, ℕ, zero, suc, ℤ, Bool, true, false, List, [], ◌∷◌, ◌++◌, map, refl, sym, ap, ◌∙◌}
use Rattle.std.specs.Prelude.{Option, Some, None, if◌then◌else◌, is_some, option_to_list, bytes_eq}
use Rattle.std.specs.List.{AllByRecursion}
use Rattle.std.specs.Option.{option_map}
use Rattle.std.proofs.lemmas.Bool.{eqb-true}
use Rattle.ix_base.specs.declared.events.ChannelMeta.{ChannelMeta}
use Rattle.ix_manifest.specs.Book.{Name, NamedItems, named, name_of, is_same, after_item, replay}
use Rattle.ix_manifest.proofs.InPlace.{none_under}
use Rattle.ix_items.specs.declared.items.Item.{Item}
use Rattle.ix_items.specs.declared.items.Item.TheVariants as items
use Rattle.ix_model.specs.Given.{Chooser}
use Rattle.ix_model.specs.State.{State, ChannelHistory, life_name, life_in}
use Rattle.ix_model.specs.Step.{state_after, channels, begun, longer, effective}
use Rattle.ix_model.specs.declared.commands.Command.{Command}
use Rattle.ix_model.specs.declared.commands.Command.TheVariants.{Begin, Block, End, Tick, Roll, Thaw, Configure, Direct}
use Rattle.ix_model.specs.declared.commands.TimedCommand.{TimedCommand}
use Rattle.ix_model.proofs.Ascending.{in_order_after}
use Rattle.ix_model.proofs.Named.{by_test, same_bytes, bytes_same, find_change, find_put, find_without}
use Rattle.ix_catalog.specs.Lists.{find, without, insert, stands_before, AreAscending}
use Rattle.ix_model.specs.Books.{life_item}
use Rattle.ix_model.specs.Said.{is_channel_kind, channel_item, ended_item, channel_items, ChannelsAreSaid}
use Rattle.ix_model.specs.Snap.{snapshot_of}
use Rattle.ix_model.proofs.Names.{none_behind, found_name}
use Rattle.ix_model.proofs.Saying.{at_kind, other_zero, none_numbered, same_text}
use Rattle.ix_model.proofs.Stood.{after_push}

none_some : {X : Type 0} {x : X} → None ≡ Some x → ⊥
none_some e = cc

true_false : true ≡ false → ⊥
true_false e = cc

-- ---- each item

one_each : (P : Item → Type 0) → ((life : ChannelHistory) → P (life_item life)) → (o : Option ChannelHistory) →
    AllByRecursion P (option_to_list (option_map life_item o))
one_each P said None = tt
one_each P said (Some life) = (said life, tt)

ended_each : (P : Item → Type 0) → ((name : List ℕ) → P (items.Ended name)) → (ls : List ChannelHistory) →
    AllByRecursion P (map ended_item ls)
ended_each P ended [] = tt
ended_each P ended (l ∷ ls) = (ended l.name, ended_each P ended ls)

pub each_channel : (P : Item → Type 0) → ((life : ChannelHistory) → P (life_item life)) → ((name : List ℕ) → P (items.Ended name)) →
    (m : State) (c : Command) (later : State) →
    AllByRecursion P (channel_items m c later)
each_channel P said ended m (Begin channel meta) later = one_each P said (life_in later channel)
each_channel P said ended m (Block channel bytes spot) later = one_each P said (life_in later channel)
each_channel P said ended m (End channel) later = (ended channel, tt)
each_channel P said ended m Tick later = tt
each_channel P said ended m (Roll index) later = tt
each_channel P said ended m (Thaw index id) later = tt
each_channel P said ended m (Configure config) later = ended_each P ended m.channels
each_channel P said ended m (Direct events) later = tt

-- ---- what stood

left_channels : (choose : Chooser) (history : List TimedCommand) (text : List ℕ) →
    (snapshot_of choose history).book (named 4 text 0) ≡ option_map life_item (life_in (state_after choose history) text)
left_channels choose [] text = refl
left_channels choose (o ∷ history) text = refl

no_channels : (choose : Chooser) (history : List TimedCommand) (text : List ℕ) (number : ℕ) →
    (snapshot_of choose history).book (named 4 text (suc number)) ≡ None
no_channels choose [] text number = refl
no_channels choose (o ∷ history) text number =
    ap (λ (t : Bool). if t then option_map life_item (life_in (state_after choose (o ∷ history)) text) else None) (other_zero number)

-- ---- an item of one channel

-- where all other channels stay
one_said : (m later : State) (channel text : List ℕ) (from : NamedItems) → from (named 4 text 0) ≡ option_map life_item (life_in m text) →
    (bytes_eq channel text ≡ false → life_in later text ≡ life_in m text) → (life_in later channel ≡ None → life_in m channel ≡ None) →
    option_map life_item (life_in later text) ≡ replay (channel_item later channel) from (named 4 text 0)
one_said m later channel text from stood others gone = by (life_in later channel) refl
  where
    by : (o : Option ChannelHistory) → life_in later channel ≡ o →
        option_map life_item (life_in later text) ≡ replay (option_to_list (option_map life_item (life_in later channel))) from
        (named 4 text 0)
    by None e = by_test (bytes_eq channel text)
        (λ t. (let is : channel ≡ text = same_bytes channel text t in
        ap (option_map life_item) (ap (life_in later) (sym is) ∙ e ∙ sym (gone e) ∙ ap (life_in m) is) ∙ sym stood
        ∙ ap (λ (o : Option ChannelHistory). replay (option_to_list (option_map life_item o)) from (named 4 text 0)) (sym e)))
        (λ t. ap (option_map life_item) (others t) ∙ sym stood
        ∙ ap (λ (o : Option ChannelHistory). replay (option_to_list (option_map life_item o)) from (named 4 text 0)) (sym e))
    by (Some life) e =
        let title : life.name ≡ channel = found_name life_name channel life later.channels e in
        let test : is_same (named 4 life.name 0) (named 4 text 0) ≡ bytes_eq channel text = same_text 4 life.name text
        ∙ ap (λ (n : List ℕ). bytes_eq n text) title in
        by_test (bytes_eq channel text)
        (λ t. (let is : channel ≡ text = same_bytes channel text t in
        ap (option_map life_item) (ap (life_in later) (sym is) ∙ e)
        ∙ sym (ap (λ (b : Bool). if b then Some (life_item life) else from (named 4 text 0)) (test ∙ t))
        ∙ ap (λ (o : Option ChannelHistory). replay (option_to_list (option_map life_item o)) from (named 4 text 0)) (sym e)))
        (λ t. ap (option_map life_item) (others t) ∙ sym stood
        ∙ sym (ap (λ (b : Bool). if b then Some (life_item life) else from (named 4 text 0)) (test ∙ t))
        ∙ ap (λ (o : Option ChannelHistory). replay (option_to_list (option_map life_item o)) from (named 4 text 0)) (sym e))

-- ---- channels that end

gone_without : {X : Type 0} (name_of : X → List ℕ) (name : List ℕ) (xs : List X) → AreAscending name_of xs →
    find name_of name (without name_of name xs) ≡ None
gone_without name_of name [] h = refl
gone_without name_of name (x ∷ xs) h =
    by_test (bytes_eq (name_of x) name)
    (λ t. rw t (none_behind name_of x name xs h.0 t))
    (λ t. rw (t, t) (gone_without name_of name xs h.1))

ended_lead : (text : List ℕ) (ls : List ChannelHistory) (book : NamedItems) →
    (find life_name text ls ≡ None → book (named 4 text 0) ≡ None) → replay (map ended_item ls) book (named 4 text 0) ≡ None
ended_lead text [] book h = h refl
ended_lead text (l ∷ ls) book h =
    ended_lead text ls (after_item (items.Ended l.name) book)
    (λ none. by_test (bytes_eq l.name text)
    (λ t. ap (λ (b : Bool). if b then None else book (named 4 text 0)) (same_text 4 l.name text ∙ t))
    (λ t. ap (λ (b : Bool). if b then None else book (named 4 text 0)) (same_text 4 l.name text ∙ t)
    ∙ h (ap (λ (b : Bool). if b then Some l else find life_name text ls) t ∙ none)))

-- ---- one command

begun_others : (choose : Chooser) (m : State) (channel : List ℕ) (meta : ChannelMeta) (text : List ℕ) (o : Option ChannelHistory) →
    life_in m channel ≡ o → bytes_eq channel text ≡ false →
    find life_name text (if is_some o then m.channels else insert life_name (begun choose m.force channel meta) m.channels) ≡ life_in m text
begun_others choose m channel meta text (Some life) e t = refl
begun_others choose m channel meta text None e t =
    find_put life_name (stands_before life_name) text (begun choose m.force channel meta) m.channels e
    ∙ ap (λ (b : Bool). if b then Some (begun choose m.force channel meta) else life_in m text) t

begun_gone : (choose : Chooser) (m : State) (channel : List ℕ) (meta : ChannelMeta) (o : Option ChannelHistory) → life_in m channel ≡ o →
    find life_name channel (if is_some o then m.channels else insert life_name (begun choose m.force channel meta) m.channels) ≡ None →
    life_in m channel ≡ None
begun_gone choose m channel meta (Some life) e k = k
begun_gone choose m channel meta None e k = e

longer_gone : (bytes : List ℕ) (moment : ℤ) (o : Option ChannelHistory) → option_map (longer bytes moment) o ≡ None → o ≡ None
longer_gone bytes moment None e = refl
longer_gone bytes moment (Some life) e = absurd (none_some (sym e))

module _ (choose : Chooser) (history : List TimedCommand) (order : TimedCommand) where
  abbrev m : State
  m = state_after choose history

  abbrev later : State
  later = state_after choose (history ++ order ∷ [])

  abbrev from : NamedItems
  from = (snapshot_of choose history).book

  abbrev moment : ℤ
  moment = effective m.last order.moment

  by_command : (text : List ℕ) (c : Command) → later.channels ≡ channels choose m c moment →
      option_map life_item (life_in later text) ≡ replay (channel_items m c later) from (named 4 text 0)
  by_command text (Begin channel meta) e =
      one_said m later channel text from (left_channels choose history text)
      (λ t. ap (find life_name text) e ∙ begun_others choose m channel meta text (life_in m channel) refl t)
      (λ k. begun_gone choose m channel meta (life_in m channel) refl (sym (ap (find life_name channel) e) ∙ k))
  by_command text (Block channel bytes spot) e =
      one_said m later channel text from (left_channels choose history text)
      (λ t. ap (find life_name text) e ∙ find_change life_name channel text (longer bytes moment) (λ l. refl) m.channels
      ∙ ap (λ (b : Bool). if b then option_map (longer bytes moment) (life_in m text) else life_in m text) t)
      (λ k. longer_gone bytes moment (life_in m channel) (
      sym (ap (λ (b : Bool). if b then option_map (longer bytes moment) (life_in m channel) else life_in m channel)
      (bytes_same channel channel refl))
      ∙ sym (find_change life_name channel channel (longer bytes moment) (λ l. refl) m.channels) ∙ sym (ap (find life_name channel) e) ∙ k))
  by_command text (End channel) e = by_test (bytes_eq channel text)
      (λ t. (let is : channel ≡ text = same_bytes channel text t in
      ap (option_map life_item) (ap (find life_name text) e
      ∙ ap (λ (n : List ℕ). find life_name n (without life_name channel m.channels)) (sym is)
      ∙ gone_without life_name channel m.channels (in_order_after choose history).channels)
      ∙ sym (ap (λ (b : Bool). if b then None else from (named 4 text 0)) (same_text 4 channel text ∙ t))))
      (λ t. ap (option_map life_item) (ap (find life_name text) e ∙ find_without life_name channel text m.channels t)
      ∙ sym (left_channels choose history text)
      ∙ sym (ap (λ (b : Bool). if b then None else from (named 4 text 0)) (same_text 4 channel text ∙ t)))
  by_command text Tick e = ap (λ (ls : List ChannelHistory). option_map life_item (find life_name text ls)) e
      ∙ sym (left_channels choose history text)
  by_command text (Roll index) e = ap (λ (ls : List ChannelHistory). option_map life_item (find life_name text ls)) e
      ∙ sym (left_channels choose history text)
  by_command text (Thaw index id) e = ap (λ (ls : List ChannelHistory). option_map life_item (find life_name text ls)) e
      ∙ sym (left_channels choose history text)
  by_command text (Configure config) e =
      ap (λ (ls : List ChannelHistory). option_map life_item (find life_name text ls)) e
      ∙ sym (ended_lead text m.channels from (λ none. left_channels choose history text ∙ ap (option_map life_item) none))
  by_command text (Direct events) e = ap (λ (ls : List ChannelHistory). option_map life_item (find life_name text ls)) e
      ∙ sym (left_channels choose history text)

  abbrev said : List Item
  said = channel_items m order.command later

  at_channel : (text : List ℕ) (number : ℕ) → (snapshot_of choose (history ++ order ∷ [])).book (named 4 text number) ≡ replay said from
      (named 4 text number)
  at_channel text zero =
      left_channels choose (history ++ order ∷ []) text
      ∙ by_command text order.command (ap (λ (x : State). x.channels) (after_push choose history order))
  at_channel text (suc number) =
      no_channels choose (history ++ order ∷ []) text number ∙ sym (no_channels choose history text number)
      ∙ sym (none_under said (named 4 text (suc number)) from
      (none_numbered 4 text number said (each_channel (λ (x : Item). (name_of x).number ≡ 0) (λ life. refl) (λ name. refl) m order.command
      later)))

pub channels_are_said : ChannelsAreSaid
channels_are_said choose history order = record {
  own = each_channel (λ (x : Item). is_channel_kind (name_of x).kind ≡ true) (λ life. refl) (λ name. refl) (m choose history order)
      order.command (later choose history order);
  lead = λ name is. at_kind (λ (n : Name). (snapshot_of choose (history ++ order ∷ [])).book n ≡ replay (said choose history order)
      (from choose history order) n) 4
      (at_channel choose history order) name (eqb-true 4 name.kind is);
}
