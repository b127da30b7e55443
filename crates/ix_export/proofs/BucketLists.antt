-- Buckets, one behind the other, and the events that they hold.
use Rattle.std.proofs.Common.{◌≡◌, List, [], ◌∷◌, ◌++◌, refl, ap, ◌∙◌}
use Rattle.std.proofs.lemmas.List.{append-nil}
use Rattle.std.proofs.lemmas.List.Concat.{flat_map-append}
use Rattle.ix_base.specs.declared.events.Event.{Event}
use Rattle.ix_disk.specs.Image.{Image, bytes_in}
use Rattle.ix_items.specs.declared.items.Bucket.{Bucket}
use Rattle.ix_export.specs.Stored.{HasEvents, HaveEvents, joined}
use Rattle.ix_export.proofs.RecordLists.{same_events}

same : List Event → List Event
same events = events

pub joined_append : (a b : List (List Event)) → joined (a ++ b) ≡ joined a ++ joined b
joined_append a b = flat_map-append (λ (events : List Event). events) a b

pub joined_push : (all : List (List Event)) (own : List Event) → joined (all ++ own ∷ []) ≡ joined all ++ own
joined_push all own = joined_append all (own ∷ []) ∙ ap (λ (l : List Event). joined all ++ l) (append-nil own)

-- one bucket more
pub have_push : (image : Image) (buckets : List Bucket) (all : List (List Event)) (bucket : Bucket) (own : List Event) →
    HaveEvents image buckets all → HasEvents image bucket own
    → HaveEvents image (buckets ++ bucket ∷ []) (all ++ own ∷ [])
have_push image [] [] bucket own p q = (q, tt)
have_push image [] (x ∷ all) bucket own p q = absurd p
have_push image (b ∷ buckets) [] bucket own p q = absurd p
have_push image (b ∷ buckets) (x ∷ all) bucket own p q = (p.0, have_push image buckets all bucket own p.1 q)

-- buckets hold one list of lists alone
pub have_same : (image : Image) (buckets : List Bucket) (a b : List (List Event)) → HaveEvents image buckets a →
    HaveEvents image buckets b → b ≡ a
have_same image [] [] [] p q = refl
have_same image [] [] (y ∷ b) p q = absurd q
have_same image [] (x ∷ a) b p q = absurd p
have_same image (c ∷ buckets) [] b p q = absurd p
have_same image (c ∷ buckets) (x ∷ a) [] p q = absurd q
have_same image (c ∷ buckets) (x ∷ a) (y ∷ b) p q = λ i. same_events x y c.bytes (bytes_in image c.file) p.0 q.0 i
    ∷ have_same image buckets a b p.1 q.1 i

-- what a bucket among others holds, and what those before it and behind it do
pub record HasParts (image : Image) (earlier : List Bucket) (bucket : Bucket) (all : List (List Event)) : Type 0 where
  pub before : List (List Event)
  pub own : List Event
  pub after : List (List Event)
  pub is : all ≡ before ++ own ∷ after
  pub have : HaveEvents image earlier before
  pub has : HasEvents image bucket own

pub parts : (image : Image) (earlier : List Bucket) (bucket : Bucket) (later : List Bucket) (all : List (List Event)) →
    HaveEvents image (earlier ++ bucket ∷ later) all → HasParts image earlier bucket all
parts image [] bucket later [] p = absurd p
parts image [] bucket later (x ∷ all) p = record { before = []; own = x; after = all; is = refl; have = tt; has = p.0 }
parts image (b ∷ earlier) bucket later [] p = absurd p
parts image (b ∷ earlier) bucket later (x ∷ all) p =
    let r = parts image earlier bucket later all p.1 in
    record {
      before = x ∷ r.before;
      own = r.own;
      after = r.after;
      is = ap (λ (l : List (List Event)). x ∷ l) r.is;
      have = (p.0, r.have);
      has = r.has;
    }
