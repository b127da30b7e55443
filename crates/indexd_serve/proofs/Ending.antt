-- How a run of requests ends.
use Rattle.std.proofs.Common.{◌≡◌, ◌∙◌, ◌⊎◌, ℕ, refl, sym, subst, inl, inr, arith}
use Rattle.std.specs.Prelude.{Option, Some, None, Result, Ok, Err}
use Rattle.ix_base.specs.declared.files.File.{File}
use Rattle.ix_sessions.specs.declared.feed.Fed.{Fed}
use Rattle.ix_sessions.specs.declared.feed.Fed.TheVariants as fed
use Rattle.ix_net.specs.declared.link.Side.{Side}
use Rattle.ix_net.specs.declared.link.Side.TheVariants as sides
use Rattle.ix_commit.specs.declared.fault.CommitFault.TheVariants as commits
use Rattle.ix_base.specs.Faults.{Rose}
use Rattle.ix_net.specs.Links.{Standing, IsCaused, LinkStep}
use Rattle.indexd_serve.specs.Sides.{failures}
use Rattle.indexd_serve.specs.Ends as ends_of
use Rattle.indexd_serve.specs.Ends.{link_end, fed_of}
use Rattle.indexd_serve.specs.declared.end.End.{End}
use Rattle.indexd_serve.specs.declared.end.End.TheVariants as ends

-- ---- what an end says of the requests

of_link : (failed : Option Side) → fed_of (link_end failed) ≡ fed.Link
of_link None = refl
of_link (Some sides.Reading) = refl
of_link (Some sides.Writing) = refl

-- an end is told as it is
pub told_end : (end : Fed) (failed : Option Side) → fed_of (ends_of.end_of end failed) ≡ end
told_end fed.Ended failed = refl
told_end (fed.Unreadable request) failed = refl
told_end fed.NoMemory failed = refl
told_end fed.Endless failed = refl
told_end fed.Link failed = of_link failed
told_end (fed.Broken commits.Disk) failed = refl
told_end (fed.Broken (commits.Damaged file at)) failed = refl

-- ---- which ends come of a fault

not_link_end : (failed : Option Side) (end : End) → end ≡ ends.Disk → link_end failed ≡ end → ⊥
not_link_end None end is e = cc
not_link_end (Some sides.Reading) end is e = cc
not_link_end (Some sides.Writing) end is e = cc

pub of_disk : (end : Fed) (failed : Option Side) → ends_of.end_of end failed ≡ ends.Disk → end ≡ fed.Broken commits.Disk
of_disk fed.Ended failed is = absurd (cc)
of_disk (fed.Unreadable request) failed is = absurd (cc)
of_disk fed.NoMemory failed is = absurd (cc)
of_disk fed.Endless failed is = absurd (cc)
of_disk (fed.Broken commits.Disk) failed is = refl
of_disk (fed.Broken (commits.Damaged file at)) failed is = absurd (cc)
of_disk fed.Link failed is = absurd (not_link_end failed ends.Disk refl is)

not_damaged : (failed : Option Side) (file : File) (at : ℕ) → link_end failed ≡ ends.Damaged file at → ⊥
not_damaged None file at is = cc
not_damaged (Some sides.Reading) file at is = cc
not_damaged (Some sides.Writing) file at is = cc

pub of_damaged : (end : Fed) (failed : Option Side) (file : File) (at : ℕ) → ends_of.end_of end failed ≡ ends.Damaged file at →
    end ≡ fed.Broken (commits.Damaged file at)
of_damaged fed.Ended failed file at is = absurd (cc)
of_damaged (fed.Unreadable request) failed file at is = absurd (cc)
of_damaged fed.NoMemory failed file at is = absurd (cc)
of_damaged fed.Endless failed file at is = absurd (cc)
of_damaged (fed.Broken commits.Disk) failed file at is = absurd (cc)
of_damaged (fed.Broken (commits.Damaged f a)) failed file at is = cc
of_damaged fed.Link failed file at is = absurd (not_damaged failed file at is)

-- where an input has failed, or an output: the link did, and this side of it
input_side : (failed : Option Side) → link_end failed ≡ ends.Input → failed ≡ Some sides.Reading
input_side None is = absurd (cc)
input_side (Some sides.Reading) is = refl
input_side (Some sides.Writing) is = absurd (cc)

pub of_input : (end : Fed) (failed : Option Side) → ends_of.end_of end failed ≡ ends.Input → (end ≡ fed.Link)
    × (failed ≡ Some sides.Reading)
of_input fed.Ended failed is = absurd (cc)
of_input (fed.Unreadable request) failed is = absurd (cc)
of_input fed.NoMemory failed is = absurd (cc)
of_input fed.Endless failed is = absurd (cc)
of_input (fed.Broken commits.Disk) failed is = absurd (cc)
of_input (fed.Broken (commits.Damaged file at)) failed is = absurd (cc)
of_input fed.Link failed is = (refl, input_side failed is)

output_side : (failed : Option Side) → link_end failed ≡ ends.Output → (failed ≡ None) ⊎ (failed ≡ Some sides.Writing)
output_side None is = inl refl
output_side (Some sides.Reading) is = absurd (cc)
output_side (Some sides.Writing) is = inr refl

pub of_output : (end : Fed) (failed : Option Side) → ends_of.end_of end failed ≡ ends.Output → (end ≡ fed.Link)
    × ((failed ≡ None) ⊎ (failed ≡ Some sides.Writing))
of_output fed.Ended failed is = absurd (cc)
of_output (fed.Unreadable request) failed is = absurd (cc)
of_output fed.NoMemory failed is = absurd (cc)
of_output fed.Endless failed is = absurd (cc)
of_output (fed.Broken commits.Disk) failed is = absurd (cc)
of_output (fed.Broken (commits.Damaged file at)) failed is = absurd (cc)
of_output fed.Link failed is = (refl, output_side failed is)

-- what was answered is this
pub same_ok : {T E : Type 0} {a b : T} → ◌≡◌ {A = Result T E} (Ok a) (Ok b) → a ≡ b
same_ok is = cc

pub same_err : {T E : Type 0} {a b : E} → ◌≡◌ {A = Result T E} (Err a) (Err b) → a ≡ b
same_err is = cc

-- ---- which side has failed

-- a link that had not failed names a side whose count has risen
read_by : (before after : Standing) → IsCaused before after → before.failed ≡ None → after.failed ≡ Some sides.Reading →
    Rose before.reading after.reading
read_by before after (inl same) none is = let e : Some sides.Reading ≡ None = sym is ∙ (same ∙ none) in absurd (cc)
read_by before after (inr (inl by)) none is = by.1
read_by before after (inr (inr by)) none is = let e : Some sides.Reading ≡ Some sides.Writing = sym is ∙ by.0 in absurd (cc)

write_by : (before after : Standing) → IsCaused before after → before.failed ≡ None → after.failed ≡ Some sides.Writing →
    Rose before.writing after.writing
write_by before after (inl same) none is = let e : Some sides.Writing ≡ None = sym is ∙ (same ∙ none) in absurd (cc)
write_by before after (inr (inl by)) none is = let e : Some sides.Writing ≡ Some sides.Reading = sym is ∙ by.0 in absurd (cc)
write_by before after (inr (inr by)) none is = by.1

pub read_failed : {before after : Standing} → LinkStep before after → before.failed ≡ None → after.failed ≡ Some sides.Reading →
    Rose before.reading after.reading
read_failed {before} {after} goes none is = read_by before after goes.side none is

pub write_failed : {before after : Standing} → LinkStep before after → before.failed ≡ None → after.failed ≡ Some sides.Writing →
    Rose before.writing after.writing
write_failed {before} {after} goes none is = write_by before after goes.side none is

-- one whose count has risen names a side
pub has_failed : (before after : Option Side) → before ≡ None → Rose (failures before) (failures after) → (after ≡ None)
    ⊎ (after ≡ Some sides.Writing) → after ≡ Some sides.Writing
has_failed before after none rose (inr is) = is
has_failed before after none rose (inl is) = absurd (still
    (subst (λ (x : Option Side). Rose (failures None) (failures x)) is
    (subst (λ (x : Option Side). Rose (failures x) (failures after)) none rose)))
  where
    still : Rose (failures None) (failures None) → ⊥
    still (inl less) = omega (arith, less)
    still (inr most) = omega (arith, most)

-- ---- what is said of values is said of those that they are

pub along : {A B : Type 0} (P : A → A → B → B → Type 0) {a a' c c' : A} {b b' e e' : B} → a ≡ c → a' ≡ c' → b ≡ e → b' ≡ e' → P a a' b b' →
    P c c' e e'
along P {a} {a'} {c} {c'} {b} {b'} {e} {e'} first second third fourth is =
    subst (λ (x : _). P c c' e x) fourth (subst (λ (x : _). P c c' x b') third
    (subst (λ (x : _). P c x b b') second (subst (λ (x : _). P x a' b b') first is)))

pub along_two : {A : Type 0} (P : A → A → Type 0) {a a' c c' : A} → a ≡ c → a' ≡ c' → P a a' → P c c'
along_two P {a} {a'} {c} {c'} first second is = subst (λ (x : _). P c x) second (subst (λ (x : _). P x a') first is)
