-- Two buckets are the same where all their fields are.
use Rattle.std.proofs.Common.{◌≡◌, ◌==◌, ◌&&◌, ◌∙◌, Bool, refl, ap, sym}
use Rattle.std.specs.Bool.{Decides}
use Rattle.std.specs.Ordering.{int_eq}
use Rattle.std.proofs.lemmas.Bool.Decides.{Decides-and, Decides-eqb, Decides-int_eq, Decides-like}
use denote.Enum.Bare.{sameb, same_true, true_same}
use Rattle.ix_base.specs.declared.files.Area.{Area}
use Rattle.ix_base.specs.declared.files.Area.TheVariants as areas
use Rattle.ix_base.specs.declared.files.File.{File}
use Rattle.ix_base.specs.contracts.files.Area as area
use Rattle.ix_items.specs.declared.items.Bucket.{Bucket}
use Rattle.ix_items.specs.declared.items.State.{State}
use Rattle.ix_items.specs.declared.items.State.TheVariants as states
use Rattle.ix_items.specs.contracts.items.State as state
use Rattle.ix_items.specs.Spelling.{area_byte, state_byte}
use Rattle.ix_catalog.specs.Changes.{is_same, is_same_file}

state_is : (a b : State) → sameb state.the_type a b ≡ (state_byte a == state_byte b)
state_is states.Hot states.Hot = refl
state_is states.Hot _ = refl
state_is states.Quarantine states.Quarantine = refl
state_is states.Quarantine _ = refl
state_is states.Warm states.Warm = refl
state_is states.Warm _ = refl
state_is states.Cold states.Cold = refl
state_is states.Cold _ = refl
state_is states.Thawed states.Thawed = refl
state_is states.Thawed _ = refl

area_is : (a b : Area) → sameb area.the_type a b ≡ (area_byte a == area_byte b)
area_is areas.Meta areas.Meta = refl
area_is areas.Meta _ = refl
area_is areas.Home areas.Home = refl
area_is areas.Home _ = refl
area_is areas.Cold areas.Cold = refl
area_is areas.Cold _ = refl
area_is areas.Frozen areas.Frozen = refl
area_is areas.Frozen _ = refl
area_is areas.Thawed areas.Thawed = refl
area_is areas.Thawed _ = refl

state_decides : (a b : State) → Decides (state_byte a == state_byte b) (a ≡ b)
state_decides a b = (λ h. same_true state.the_type tt a b (state_is a b ∙ h), λ h. sym (state_is a b) ∙ true_same state.the_type a b h)

area_decides : (a b : Area) → Decides (area_byte a == area_byte b) (a ≡ b)
area_decides a b = (λ h. same_true area.the_type tt a b (area_is a b ∙ h), λ h. sym (area_is a b) ∙ true_same area.the_type a b h)

file_decides : (f g : File) → Decides (is_same_file f g) (f ≡ g)
file_decides f g =
    Decides-like _ (λ h i. record { area = h.0 i; number = h.1 i }) (λ h. (ap (λ (x : File). x.area) h, ap (λ (x : File). x.number) h))
    (Decides-and _ _ (area_decides f.area g.area) (Decides-eqb f.number g.number))

pub same_decides : (b c : Bucket) → Decides (is_same b c) (b ≡ c)
same_decides b c =
    Decides-like _
    (λ h i. record {
      id = h.0 i;
      state = h.1.0 i;
      file = h.1.1.0 i;
      bytes = h.1.1.1.0 i;
      count = h.1.1.1.1.0 i;
      newest = h.1.1.1.1.1.0 i;
      oldest = h.1.1.1.1.1.1.0 i;
      used = h.1.1.1.1.1.1.1.0 i;
      touched = h.1.1.1.1.1.1.1.1 i;
    })
    (λ h. (
      ap (λ (x : Bucket). x.id) h,
      (
        ap (λ (x : Bucket). x.state) h,
        (
          ap (λ (x : Bucket). x.file) h,
          (
            ap (λ (x : Bucket). x.bytes) h,
            (
              ap (λ (x : Bucket). x.count) h,
              (
                ap (λ (x : Bucket). x.newest) h,
                (
                  ap (λ (x : Bucket). x.oldest) h,
                  (ap (λ (x : Bucket). x.used) h, ap (λ (x : Bucket). x.touched) h),
                ),
              ),
            ),
          ),
        ),
      ),
    ))
    (Decides-and _ _ (Decides-eqb b.id c.id) (Decides-and _ _ (state_decides b.state c.state) (Decides-and _ _ (file_decides b.file c.file)
    (Decides-and _ _ (Decides-eqb b.bytes c.bytes) (Decides-and _ _ (Decides-eqb b.count c.count)
    (Decides-and _ _ (Decides-int_eq b.newest c.newest)
    (Decides-and _ _ (Decides-int_eq b.oldest c.oldest)
    (Decides-and _ _ (Decides-eqb b.used c.used) (Decides-int_eq b.touched c.touched)))))))))

-- what `==` answers of two buckets
abbrev pub equals : Bucket → Bucket → Bool
equals b c =
    (b.id == c.id) && (sameb state.the_type b.state c.state &&
    ((sameb area.the_type b.file.area c.file.area && (b.file.number == c.file.number)) && ((b.bytes == c.bytes) && ((b.count == c.count)
    && (int_eq b.newest c.newest && (int_eq b.oldest c.oldest && ((b.used == c.used) && int_eq b.touched c.touched)))))))

equals_is : (b c : Bucket) → equals b c ≡ is_same b c
equals_is b c i =
    (b.id == c.id) && (state_is b.state c.state i && ((area_is b.file.area c.file.area i && (b.file.number == c.file.number)) &&
    ((b.bytes == c.bytes) && ((b.count == c.count)
    && (int_eq b.newest c.newest && (int_eq b.oldest c.oldest && ((b.used == c.used) && int_eq b.touched c.touched)))))))

pub equals_decides : (b c : Bucket) → Decides (equals b c) (b ≡ c)
equals_decides b c = (λ h. (same_decides b c).0 (sym (equals_is b c) ∙ h), λ h. equals_is b c ∙ (same_decides b c).1 h)
