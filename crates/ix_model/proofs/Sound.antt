-- The fields of buckets and entries are the sums of the events, whatever is done.
use Rattle.std.proofs.Common.{◌≡◌, ◌≢◌, ℕ, zero, suc, ◌+◌, ℤ, Bool, true, false, List, [], ◌∷◌, ◌++◌, length, map, refl, sym, ap, ◌∙◌}
use Rattle.std.proofs.Common.{arith, subst, inl, inr}
use Rattle.std.specs.Prelude.{Option, Some, None, ◌⊎◌, nat_le, slice_get}
use Rattle.ix_base.specs.declared.events.Event.{Event}
use Rattle.ix_base.specs.declared.files.Area.TheVariants as areas
use Rattle.ix_items.specs.declared.items.Bucket.{Bucket}
use Rattle.ix_items.specs.declared.items.Entry.{Entry}
use Rattle.ix_items.specs.declared.items.Rule.{Rule}
use Rattle.ix_items.specs.declared.items.State.TheVariants as states
use Rattle.ix_life.specs.Housekeeping.{megabytes}
use Rattle.ix_life.specs.Placing.{is_open}
use Rattle.ix_life.specs.declared.limits.Limits.{Limits}
use Rattle.ix_model.specs.Buckets.{Standing, live, frozen, Slot}
use Rattle.ix_catalog.specs.Buckets.{rolled, cooled, with_event, made}
use Rattle.ix_model.specs.Keeping as kept
use Rattle.ix_model.specs.Keeping.{turned, turned_by, file_behind, all_turned, closed_slot, thawing, thawed_by, thawed_slot}
use Rattle.ix_catalog.specs.Buckets.{Turn, staying, rule_of, is_among}
use Rattle.ix_catalog.specs.Lists.{update}
use Rattle.ix_model.specs.Placed.{change_live, rolled_slot, filled_slot, made_slot, roll, placed}
use Rattle.ix_catalog.specs.Buckets.{closed, state_for}
use Rattle.ix_model.specs.Sums.{IsIn, IsLiveOf, MayBeThawed, IsEntryOf, IsStandingOf, AreSoundFrom}
use Rattle.ix_model.proofs.Named.{by_test}
use Rattle.ix_model.proofs.Placing.{GoesInto, GoesBehind, goes}
use Rattle.ix_model.proofs.Sums.{sums_one, sums_more}

-- ---- one bucket

not_thawed_quarantine : states.Quarantine ≢ states.Thawed
not_thawed_quarantine e = cc

not_thawed_hot : states.Hot ≢ states.Thawed
not_thawed_hot e = cc

not_thawed_warm : states.Warm ≢ states.Thawed
not_thawed_warm e = cc

not_thawed_cold : states.Cold ≢ states.Thawed
not_thawed_cold e = cc

rolled_is : (id : ℕ) (events : List Event) (b : Bucket) → IsLiveOf id events b → IsLiveOf id events (rolled b)
rolled_is id events b h = record { is_of = record { id_is = h.is_of.id_is; sums = h.is_of.sums }; state_is = not_thawed_warm; file_is = tt }

cooled_is : (id : ℕ) (events : List Event) (file : ℕ) (b : Bucket) → IsLiveOf id events b → IsLiveOf id events (cooled file b)
cooled_is id events file b h = record {
  is_of = record { id_is = h.is_of.id_is; sums = h.is_of.sums };
  state_is = not_thawed_cold;
  file_is = refl;
}

closed_is : (limits : Limits) (id : ℕ) (events : List Event) (b : Bucket) → IsLiveOf id events b → IsLiveOf id events (closed limits b)
closed_is limits id events b h = by_test (nat_le (megabytes limits.max_data_mb) b.bytes)
    (λ t. rw t (rolled_is id events b h))
    (λ t. rw t h)

more_is : (id : ℕ) (events : List Event) (event : Event) (used : ℕ) (moment : ℤ) (b : Bucket) → IsLiveOf id events b →
    IsLiveOf id (events ++ event ∷ []) (with_event event used moment b)
more_is id events event used moment b h = record {
  is_of = record { id_is = h.is_of.id_is; sums = sums_more events event b.count b.bytes b.newest b.oldest h.is_of.sums };
  state_is = h.state_is;
  file_is = h.file_is;
}

made_state : (quarantine : Bool) → state_for quarantine ≢ states.Thawed
made_state true = not_thawed_quarantine
made_state false = not_thawed_hot

made_file : (quarantine : Bool) → IsIn (state_for quarantine) areas.Home
made_file true = refl
made_file false = refl

made_is : (id : ℕ) (quarantine : Bool) (file : ℕ) (event : Event) (used : ℕ) (moment : ℤ) →
    IsLiveOf id (event ∷ []) (made id (state_for quarantine) file event used moment)
made_is id quarantine file event used moment = record {
  is_of = record { id_is = refl; sums = sums_one event };
  state_is = made_state quarantine;
  file_is = made_file quarantine;
}

-- ---- the bucket at a place, and one more behind

pub sound_update : (index : List ℕ) (id k : ℕ) (f : Slot → Slot) (slots : List Slot) → AreSoundFrom index id slots →
    ((s : Slot) (j : ℕ) → slice_get slots k ≡ Some s → IsStandingOf index j s.events s.standing →
    IsStandingOf index j (f s).events (f s).standing) →
    AreSoundFrom index id (update k f slots)
sound_update index id k f [] h keeps = tt
sound_update index id zero f (s ∷ slots) h keeps = (keeps s id refl h.0, h.1)
sound_update index id (suc k) f (s ∷ slots) h keeps = (h.0, sound_update index (suc id) k f slots h.1 (λ t j e i. keeps t j e i))

pub sound_push : (index : List ℕ) (id : ℕ) (slots : List Slot) (s : Slot) → AreSoundFrom index id slots →
    ((j : ℕ) → j ≡ id + length slots → IsStandingOf index j s.events s.standing) → AreSoundFrom index id (slots ++ s ∷ [])
sound_push index id [] s h is = (is id (omega arith), tt)
sound_push index id (x ∷ slots) s h is = (h.0, sound_push index (suc id) slots s h.1 (λ j e. is j (omega (arith, e))))

rolls_one : (index : List ℕ) (id : ℕ) (events : List Event) (standing : Standing) → IsStandingOf index id events standing →
    IsStandingOf index id events (change_live rolled standing)
rolls_one index id events (live b) h = rolled_is id events b h
rolls_one index id events (frozen e other) h = h

pub sound_roll : (index : List ℕ) (o : Option ℕ) (slots : List Slot) → AreSoundFrom index 0 slots → AreSoundFrom index 0 (roll o slots)
sound_roll index None slots h = h
sound_roll index (Some k) slots h = sound_update index 0 k rolled_slot slots h (λ s j e i. rolls_one index j s.events s.standing i)

fills_one : (index : List ℕ) (id : ℕ) (limits : Limits) (event : Event) (used : ℕ) (moment : ℤ) (b : Bucket) (s : Slot) →
    s.standing ≡ live b →
    IsStandingOf index id s.events s.standing →
    IsStandingOf index id (filled_slot limits event used moment s).events (filled_slot limits event used moment s).standing
fills_one index id limits event used moment b s e h =
    subst (λ (x : Standing). IsStandingOf index id (s.events ++ event ∷ [])
    (change_live (λ (c : Bucket). closed limits (with_event event used moment c)) x)) (sym e)
    (closed_is limits id (s.events ++ event ∷ []) (with_event event used moment b)
    (more_is id s.events event used moment b (subst (λ (x : Standing). IsStandingOf index id s.events x) e h)))

some_same : {A : Type 0} (x y : A) → Some x ≡ Some y → x ≡ y
some_same x y e = cc

sound_by : (index : List ℕ) (limits : Limits) (file : ℕ) (event : Event) (used : ℕ) (moment : ℤ) (slots : List Slot) →
    AreSoundFrom index 0 slots →
    GoesInto limits file event used moment slots ⊎ GoesBehind limits file event used moment slots →
    AreSoundFrom index 0 (placed limits file event used moment slots)
sound_by index limits file event used moment slots h (inl g) =
    subst (AreSoundFrom index 0) (sym g.comes_to)
    (sound_update index 0 g.place (filled_slot limits event used moment) slots h (λ s j e i.
    fills_one index j limits event used moment g.bucket s
    (ap (λ (x : Slot). x.standing) (some_same s g.slot (sym e ∙ g.found)) ∙ g.stands) i))
sound_by index limits file event used moment slots h (inr g) =
    subst (AreSoundFrom index 0) (sym g.comes_to)
    (sound_push index 0 (roll g.rolls slots) (made_slot limits (length (roll g.rolls slots)) g.quarantine file event used moment)
    (sound_roll index g.rolls slots h)
    (λ j e. subst (λ (n : ℕ). IsLiveOf j (event ∷ []) (closed limits (made n (state_for g.quarantine) file event used moment)))
    (let k : j ≡ length (roll g.rolls slots) = omega (arith, e) in k)
    (closed_is limits j (event ∷ []) (made j (state_for g.quarantine) file event used moment)
    (made_is j g.quarantine file event used moment))))

pub sound_placed : (index : List ℕ) (limits : Limits) (file : ℕ) (event : Event) (used : ℕ) (moment : ℤ) (slots : List Slot) →
    AreSoundFrom index 0 slots →
    AreSoundFrom index 0 (placed limits file event used moment slots)
sound_placed index limits file event used moment slots h =
    sound_by index limits file event used moment slots h (goes index limits file event used moment slots h)

-- ---- turns, rolls and thaws

staying_is : (t : Turn) (id : ℕ) (events : List Event) (file : ℕ) (b : Bucket) → IsLiveOf id events b →
    IsLiveOf id events (staying t file b)
staying_is t id events file b h = by_test (is_among t.moves.cooled b.id)
    (λ c. rw c (cooled_is id events file b h))
    (λ c. rw c (by_test (is_among t.moves.warmed b.id) (λ w. rw w (rolled_is id events b h)) (λ w. rw w h)))

turned_is : (t : Turn) (id : ℕ) (events : List Event) (file : ℕ) (b : Bucket) (o : Option Rule) → IsLiveOf id events b →
    IsStandingOf t.index id events (turned_by t file b o)
turned_is t id events file b None h = staying_is t id events file b h
turned_is t id events file b (Some rule) h = (record { index_is = refl; id_is = h.is_of.id_is; sums = h.is_of.sums }, tt)

turns_one : (t : Turn) (id : ℕ) (events : List Event) (file : ℕ) (standing : Standing) → IsStandingOf t.index id events standing →
    IsStandingOf t.index id events (turned t file standing)
turns_one t id events file (live b) h = turned_is t id events file b (rule_of t.moves.frozen b.id) h
turns_one t id events file (frozen e other) h = h

pub sound_turned : (t : Turn) (id file : ℕ) (slots : List Slot) → AreSoundFrom t.index id slots →
    AreSoundFrom t.index id (all_turned t file slots)
sound_turned t id file [] h = tt
sound_turned t id file (s ∷ slots) h =
    (turns_one t id s.events file s.standing h.0, sound_turned t (suc id) (file_behind t file s.standing) slots h.1)

closes_one : (index : List ℕ) (id : ℕ) (events : List Event) (standing : Standing) → IsStandingOf index id events standing →
    IsStandingOf index id events (change_live kept.closed standing)
closes_one index id events (live b) h = by_test (is_open b) (λ t. rw t (rolled_is id events b h)) (λ t. rw t h)
closes_one index id events (frozen e other) h = h

pub sound_closed : (index : List ℕ) (id : ℕ) (slots : List Slot) → AreSoundFrom index id slots →
    AreSoundFrom index id (map closed_slot slots)
sound_closed index id [] h = tt
sound_closed index id (s ∷ slots) h = (closes_one index id s.events s.standing h.0, sound_closed index (suc id) slots h.1)

thawed_is : (index : List ℕ) (id : ℕ) (events : List Event) (file : ℕ) (e : Entry) (archive : Option ℕ) (other : Option Bucket) →
    IsEntryOf index id events e →
    MayBeThawed id events other → IsStandingOf index id events (thawed_by e archive file other)
thawed_is index id events file e None other h o = (h, o)
thawed_is index id events file e (Some archive) (Some b) h o = (h, o)
thawed_is index id events file e (Some archive) None h o =
    (h, record { is_of = record { id_is = h.id_is; sums = h.sums }; state_is = refl; file_is = refl })

thaws_one : (index : List ℕ) (id : ℕ) (events : List Event) (file : ℕ) (standing : Standing) → IsStandingOf index id events standing →
    IsStandingOf index id events (thawing file standing)
thaws_one index id events file (live b) h = h
thaws_one index id events file (frozen e other) h = thawed_is index id events file e e.archive other h.0 h.1

pub sound_thawed : (index : List ℕ) (k file : ℕ) (slots : List Slot) → AreSoundFrom index 0 slots →
    AreSoundFrom index 0 (update k (thawed_slot file) slots)
sound_thawed index k file slots h =
    sound_update index 0 k (thawed_slot file) slots h (λ s j e i. thaws_one index j s.events file s.standing i)
