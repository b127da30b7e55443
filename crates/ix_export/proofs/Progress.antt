-- How far an export of buckets has come, and what it has written when it stops.
use Rattle.std.proofs.Common.{◌≡◌, ℕ, suc, ◌+◌, ◌-◌, ◌<◌, ◌≤◌, List, [], ◌∷◌, ◌++◌, length, take, drop, get_or, Option, Result, Err, refl}
use Rattle.std.proofs.Common.{sym, ap, subst, ◌∙◌, arith}
use Rattle.std.proofs.lemmas.List.{take_more, take_all}
use Rattle.std.proofs.Math.Seq.{split_at}
use Rattle.ix_base.specs.Told.{HasWritten, HasBegun}
use Rattle.ix_base.specs.declared.events.Event.{Event}
use Rattle.ix_base.specs.declared.events.Range.{Range}
use Rattle.ix_bucket.specs.Ahead.{between, HasNoRecord, OnBadRecord}
use Rattle.ix_bucket.specs.declared.ahead.ReadFault.{ReadFault}
use Rattle.ix_bucket.specs.declared.ahead.ReadFault.TheVariants as reads
use Rattle.ix_bucket.specs.Count.{HasRecords}
use Rattle.ix_bucket.specs.Record.{event_bytes, IsRecordOf}
use Rattle.ix_disk.specs.Image.{Image, bytes_in}
use Rattle.ix_items.specs.declared.items.Bucket.{Bucket}
use Rattle.ix_export.specs.Lines.{text, HasExported}
use Rattle.ix_export.specs.Faults.{OnDamaged, fault_of}
use Rattle.ix_export.specs.Stored.{HasEvents, HaveEvents, AreWhole, joined}
use Rattle.ix_export.specs.declared.fault.BucketFault.{BucketFault}
use Rattle.ix_export.specs.declared.fault.BucketFault.TheVariants.{Disk, Damaged, Output, NoMemory}
use Rattle.ix_base.specs.declared.files.File.{File}
use Rattle.ix_export.specs.Steps.{TakesEvent, TakesBucket}
use Rattle.ix_export.specs.Stops.{StopsIn, StopsAt}
use Rattle.ix_base.proofs.ToldLemmas.{then_written}
use Rattle.ix_export.proofs.LineLemmas.{text_append, nothing_exported, exported_more, then_front, front_of_more}
use Rattle.ix_export.proofs.RecordLists.{nothing_read, one_more, alone, more_behind, none_bad}
use Rattle.ix_export.proofs.BucketLists.{joined_append, joined_push, have_push, have_same, parts}

-- ---- in a bucket

-- the events up to a place were exported
pub record HasRead (range : Range) (at : ℕ) (bytes : List ℕ) (x : Option (List ℕ)) (n : ℕ) (y : Option (List ℕ)) (m : ℕ) : Type 0 where
  pub done : List Event
  pub read : HasRecords done at bytes
  pub exported : HasExported range done x n y m

pub read_more : (range : Range) (at next : ℕ) (bytes : List ℕ) (x y z : Option (List ℕ)) (n m k : ℕ) → HasRead range at bytes x n y m →
    TakesEvent range at next bytes y m z k → HasRead range next bytes x n z k
read_more range at next bytes x y z n m k p q = record {
  done = p.done ++ q.event ∷ [];
  read = one_more p.done q.event at next bytes p.read q.is_record q.size;
  exported = exported_more range p.done (q.event ∷ []) x y z n m k p.exported q.exported;
}

-- nothing was read yet
pub none_read : (range : Range) (bytes : List ℕ) (x : Option (List ℕ)) (n : ℕ) → HasRead range 0 bytes x n x n
none_read range bytes x n = record { done = []; read = nothing_read bytes; exported = nothing_exported range x n }

-- all was
pub takes : (range : Range) (image : Image) (bucket : Bucket) (at : ℕ) (x : Option (List ℕ)) (n : ℕ) (y : Option (List ℕ)) (m : ℕ) →
    at ≤ bucket.bytes → bucket.bytes ≤ at
    → HasRead range at (bytes_in image bucket.file) x n y m → TakesBucket range image bucket x n y m
takes range image bucket at x n y m le ge p =
    let end : at ≡ bucket.bytes = omega (arith, le, ge) in
    record {
      events = p.done;
      has = subst (λ (k : ℕ). HasRecords p.done k (bytes_in image bucket.file)) end p.read;
      exported = p.exported;
    }

-- no record follows
pub stops_in : (range : Range) (image : Image) (bucket : Bucket) (at : ℕ) (x : Option (List ℕ)) (n : ℕ) (y : Option (List ℕ)) (m : ℕ)
    (z : Option (List ℕ)) → at < bucket.bytes
    → HasRead range at (bytes_in image bucket.file) x n y m → HasNoRecord at bucket.bytes (bytes_in image bucket.file) → z ≡ y →
    StopsIn range image bucket at x z
stops_in range image bucket at x n y m z lt p none same = record {
  events = p.done;
  damaged = record { read = p.read; within = lt; none = none };
  written = subst (λ (o : Option (List ℕ)). HasWritten (text range p.done) x o) (sym same) p.exported.written;
}

-- a front of the lines from the place on was written
pub stops_in_front : (range : Range) (events : List Event) (at until : ℕ) (bytes : List ℕ) (x y z : Option (List ℕ)) (n m : ℕ) →
    at ≤ until → HasRead range at bytes x n y m → HasRecords events until bytes
    → ((more : List Event) → HasRecords more (until - at) (drop at bytes) → HasBegun (text range more) y z) →
    HasBegun (text range events) x z
stops_in_front range events at until bytes x y z n m le p has begun =
    let b = more_behind p.done events at until bytes le p.read has in
    subst (λ (l : List Event). HasBegun (text range l) x z) (sym b.is)
    (then_front range p.done b.more x y z p.exported.written (begun b.more b.has))

-- a front of the line of the event at the place was written
pub stops_in_event : (range : Range) (events : List Event) (event : Event) (at next until : ℕ) (bytes : List ℕ) (x y : Option (List ℕ)) →
    next ≤ until → IsRecordOf (between at next bytes) event
    → next ≡ at + length (event_bytes event) → HasRecords events (until - at) (drop at bytes) → HasBegun (text range (event ∷ [])) x y →
    HasBegun (text range events) x y
stops_in_event range events event at next until bytes x y le is size has begun =
    let m = more_behind (event ∷ []) events (next - at) (until - at) (drop at bytes) (omega (arith, le)) (alone event at next bytes is size)
    has in
    subst (λ (l : List Event). HasBegun (text range l) x y) (sym m.is) (front_of_more range (event ∷ []) m.more x y begun)

-- ---- in a list of buckets

-- the events of these buckets were exported
pub record HasDone (range : Range) (image : Image) (buckets : List Bucket) (x : Option (List ℕ)) (n : ℕ) (y : Option (List ℕ))
    (m : ℕ) : Type 0 where
  pub all : List (List Event)
  pub have : HaveEvents image buckets all
  pub exported : HasExported range (joined all) x n y m

pub none_done : (range : Range) (image : Image) (x : Option (List ℕ)) (m : ℕ) → m ≡ 0 → HasDone range image [] x 0 x m
none_done range image x m zero = record {
  all = [];
  have = tt;
  exported = subst (λ (k : ℕ). HasExported range [] x 0 x k) (sym zero) (nothing_exported range x 0);
}

pub done_more : (range : Range) (image : Image) (buckets : List Bucket) (i : ℕ) (d : Bucket) (x y z : Option (List ℕ)) (n m k : ℕ) →
    i < length buckets → HasDone range image (take i buckets) x n y m
    → TakesBucket range image (get_or buckets i d) y m z k → HasDone range image (take (i + 1) buckets) x n z k
done_more range image buckets i d x y z n m k lt p q = record {
  all = p.all ++ q.events ∷ [];
  have = subst (λ (l : List Bucket). HaveEvents image l (p.all ++ q.events ∷ [])) (sym (take_more buckets i d lt))
      (have_push image (take i buckets) p.all (get_or buckets i d) q.events p.have q.has);
  exported = subst (λ (l : List Event). HasExported range l x n z k) (sym (joined_push p.all q.events))
      (exported_more range (joined p.all) q.events x y z n m k p.exported q.exported);
}

-- the buckets, cut at one of them
cut : (buckets : List Bucket) (i : ℕ) (d : Bucket) → i < length buckets → buckets ≡ take i buckets ++ get_or buckets i d
    ∷ drop (suc i) buckets
cut buckets i d lt = split_at buckets i d lt

-- a front of the lines of the next bucket was written
pub stops_in_bucket : (range : Range) (image : Image) (buckets : List Bucket) (all : List (List Event)) (i : ℕ) (d : Bucket)
    (x y z : Option (List ℕ)) (n m : ℕ) → i < length buckets
    → HasDone range image (take i buckets) x n y m → HaveEvents image buckets all
    → ((events : List Event) → HasEvents image (get_or buckets i d) events → HasBegun (text range events) y z) →
    HasBegun (text range (joined all)) x z
stops_in_bucket range image buckets all i d x y z n m lt p have begun =
    let r = parts image (take i buckets) (get_or buckets i d) (drop (suc i) buckets) all
    (subst (λ (l : List Bucket). HaveEvents image l all) (cut buckets i d lt) have) in
    let before = have_same image (take i buckets) p.all r.before p.have r.have in
    let is : joined all ≡ joined p.all ++ (r.own ++ joined r.after) =
    ap joined (r.is ∙ ap (λ (l : List (List Event)). l ++ r.own ∷ r.after) before) ∙ joined_append p.all (r.own ∷ r.after) in
    subst (λ (l : List Event). HasBegun (text range l) x z) (sym is)
    (then_front range (joined p.all) (r.own ++ joined r.after) x y z p.exported.written
    (front_of_more range r.own (joined r.after) y z (begun r.own r.has)))

-- the next bucket is damaged
pub stops_at : (range : Range) (image : Image) (buckets : List Bucket) (i : ℕ) (d : Bucket) (at : ℕ) (x y z : Option (List ℕ)) (n m : ℕ) →
    i < length buckets
    → HasDone range image (take i buckets) x n y m → StopsIn range image (get_or buckets i d) at y z →
    StopsAt range image buckets (get_or buckets i d).file at x z
stops_at range image buckets i d at x y z n m lt p q = record {
  earlier = take i buckets;
  bucket = get_or buckets i d;
  later = drop (suc i) buckets;
  buckets_are = cut buckets i d lt;
  file_is = refl;
  all = p.all;
  have = p.have;
  events = q.events;
  damaged = q.damaged;
  written = subst (λ (l : List ℕ). HasWritten l x z) (sym (text_append range (joined p.all) q.events))
      (then_written p.exported.written q.written);
}

-- a damaged bucket among others has no events
pub not_sound : (range : Range) (image : Image) (buckets : List Bucket) (i : ℕ) (d : Bucket) (at : ℕ) (y z : Option (List ℕ))
    (all : List (List Event)) → i < length buckets
    → StopsIn range image (get_or buckets i d) at y z → HaveEvents image buckets all → ⊥
not_sound range image buckets i d at y z all lt q have =
    let r = parts image (take i buckets) (get_or buckets i d) (drop (suc i) buckets) all
    (subst (λ (l : List Bucket). HaveEvents image l all) (cut buckets i d lt) have) in
    none_bad q.events r.own at (get_or buckets i d).bytes (bytes_in image (get_or buckets i d).file) q.damaged.within q.damaged.read r.has
    q.damaged.none

-- all were exported
pub all_written : (range : Range) (image : Image) (buckets : List Bucket) (i : ℕ) (all : List (List Event)) (x y : Option (List ℕ))
    (n m : ℕ) → length buckets ≤ i → HasDone range image (take i buckets) x n y m
    → HaveEvents image buckets all → HasExported range (joined all) x n y m
all_written range image buckets i all x y n m le p have =
    let whole = subst (λ (l : List Bucket). HaveEvents image l p.all) (take_all i buckets le) p.have in
    subst (λ (l : List (List Event)). HasExported range (joined l) x n y m) (sym (have_same image buckets p.all all whole have)) p.exported

pub all_whole : (range : Range) (image : Image) (buckets : List Bucket) (i : ℕ) (x y : Option (List ℕ)) (n m : ℕ) → length buckets ≤ i →
    HasDone range image (take i buckets) x n y m → AreWhole image buckets
all_whole range image buckets i x y n m le p = record {
  all = p.all;
  have = subst (λ (l : List Bucket). HaveEvents image l p.all) (take_all i buckets le) p.have;
}

-- ---- faults

abbrev failed : (T : Type 0) → BucketFault → Result T BucketFault
failed T fault = Err fault

-- one fault, whatever was asked
pub same_fault : {T : Type 0} (U : Type 0) (x y : BucketFault) → failed T x ≡ failed T y → failed U x ≡ failed U y
same_fault U x y is = let e : x ≡ y = cc in ap (failed U) e

-- what follows from what is said of the place of a bad record
pub on_bad : (file : File) (fault : ReadFault) (told : BucketFault) (A : ℕ → Type 0) (Q : File → ℕ → Type 0) → told ≡ fault_of file fault
    → ((at : ℕ) → A at → Q file at) → OnBadRecord fault A → OnDamaged told Q
on_bad file reads.Disk told A Q is f a = subst (λ (x : BucketFault). OnDamaged x Q) (sym is) tt
on_bad file (reads.BadRecord at) told A Q is f a = subst (λ (x : BucketFault). OnDamaged x Q) (sym is) (f at a)
on_bad file reads.NoMemory told A Q is f a = subst (λ (x : BucketFault). OnDamaged x Q) (sym is) tt

-- what follows from what is said of a damaged place
pub on_damaged1 : (fault : BucketFault) (A Q : File → ℕ → Type 0) → ((file : File) (at : ℕ) → A file at → Q file at) → OnDamaged fault A →
    OnDamaged fault Q
on_damaged1 Disk A Q f a = tt
on_damaged1 (Damaged file at) A Q f a = f file at a
on_damaged1 Output A Q f a = tt
on_damaged1 NoMemory A Q f a = tt

pub on_damaged2 : (fault : BucketFault) (A B Q : File → ℕ → Type 0) → ((file : File) (at : ℕ) → A file at → B file at → Q file at) →
    OnDamaged fault A → OnDamaged fault B → OnDamaged fault Q
on_damaged2 Disk A B Q f a b = tt
on_damaged2 (Damaged file at) A B Q f a b = f file at a b
on_damaged2 Output A B Q f a b = tt
on_damaged2 NoMemory A B Q f a b = tt

pub on_damaged3 : (fault : BucketFault) (A B C Q : File → ℕ → Type 0) →
    ((file : File) (at : ℕ) → A file at → B file at → C file at → Q file at)
    → OnDamaged fault A → OnDamaged fault B → OnDamaged fault C → OnDamaged fault Q
on_damaged3 Disk A B C Q f a b c = tt
on_damaged3 (Damaged file at) A B C Q f a b c = f file at a b c
on_damaged3 Output A B C Q f a b c = tt
on_damaged3 NoMemory A B C Q f a b c = tt
