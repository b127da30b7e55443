use Rattle.std.proofs.Common.{◌≡◌, ◌≢◌, ◌<◌, ℕ, set, [], ◌∷◌, List, length, get_or, refl, ap, subst, sym, ◌∙◌, arith}
use Rattle.std.specs.Prelude.{All}
use Rattle.ix_base.specs.declared.files.File.{File}
use Rattle.ix_commit.specs.declared.staged_append.StagedAppend.{StagedAppend}
use Rattle.ix_commit.specs.Parts.{file_in, home, more_staged}
use Rattle.ix_commit.specs.Cuts.{Grew}
use Rattle.ix_commit.proofs.Steps.{stages_set, stages_push}
use Rattle.ix_commit.proofs.Cutting.{grew_as, grew_parts, grew_set, grew_push}
use Rattle.ix_commit.proofs.committer.Committer.push_piece.Goals as goal

grown : (ps : List StagedAppend) (k : ℕ) → k < length ps → (bytes : List ℕ) (after : List StagedAppend) →
    ((d : StagedAppend) → after ≡ set ps k (more_staged (get_or ps k d) bytes)) → Grew ps after
grown [] k l bytes after e = absurd (omega (arith, l))
grown (p ∷ ps) k l bytes after e = subst (λ (qs : List StagedAppend). Grew (p ∷ ps) qs) (sym (e p)) (grew_set (p ∷ ps) k p bytes)

pub returns-then-place-len-clause-staged : goal.returns-then-place-len-clause-staged
returns-then-place-len-clause-staged c = λ old new stages fit.
    let parts = c.args.self.now.parts in
    let place = c.part_of-place.result in
    let piece = c.args.piece.now in
    let within : place < length parts = omega (arith, c.if-place-len.true, c.len.ensures) in
    stages_set c.args.self.now _ old new piece fit stages place refl refl
    (λ d. c.in_ok-extend_part.ensures.ok d ∙ ap (λ (l : List ℕ). set parts place (more_staged (get_or parts place d) l))
    c.as_slice-then-place-len.ensures) within
    (λ d. subst (λ (l : List StagedAppend). place < length l →
    file_in (get_or l place d) ≡ c.home.result) c.as_slice.ensures (c.part_of-place.ensures.found d) within ∙ c.home.ensures)

pub returns-clause-staged : goal.returns-clause-staged
returns-clause-staged c = λ old new stages fit.
    let parts = c.args.self.now.parts in
    let place = c.part_of-place.result in
    let piece = c.args.piece.now in
    let size = ap length c.as_slice.ensures in
    let none : All (λ (p : StagedAppend). file_in p ≢ home piece.number) parts =
    subst (λ (f : File). All (λ (p : StagedAppend). file_in p ≢ f) parts) c.home.ensures
    (subst (All (λ (p : StagedAppend). file_in p ≢ c.home.result)) c.as_slice.ensures
    (c.part_of-place.ensures.none (omega (arith, c.part_of-place.ensures.within, c.if-place-len.false, size, c.len.ensures)))) in
    stages_push c.args.self.now _ old new piece fit stages _ refl refl c.in_ok-push.ensures.ok none refl refl (c.in_ok-staged.ensures
    ∙ c.as_slice-2.ensures)

pub returns-in_err-extend_part-clause-grew : goal.returns-in_err-extend_part-clause-grew
returns-in_err-extend_part-clause-grew c = grew_as _ _ (record { root = refl; log = refl; number = refl; first = refl; closed = refl }) refl
    c.in_err-extend_part.ensures.err refl refl

pub returns-then-place-len-clause-grew : goal.returns-then-place-len-clause-grew
returns-then-place-len-clause-grew c =
    let parts = c.args.self.now.parts in
    let place = c.part_of-place.result in
    let within : place < length parts = omega (arith, c.if-place-len.true, c.len.ensures) in
    grew_parts c.args.self.now _ (record { root = refl; log = refl; number = refl; first = refl; closed = refl }) refl
    (grown parts place within _ _ c.in_ok-extend_part.ensures.ok) refl refl

pub returns-in_err-staged-clause-grew : goal.returns-in_err-staged-clause-grew
returns-in_err-staged-clause-grew c = grew_as _ _ (record { root = refl; log = refl; number = refl; first = refl; closed = refl }) refl refl
    refl refl

pub returns-in_err-push-clause-grew : goal.returns-in_err-push-clause-grew
returns-in_err-push-clause-grew c = grew_as _ _ (record { root = refl; log = refl; number = refl; first = refl; closed = refl }) refl
    c.in_err-push.ensures.err refl refl

pub returns-clause-grew : goal.returns-clause-grew
returns-clause-grew c = grew_parts c.args.self.now _ (record { root = refl; log = refl; number = refl; first = refl; closed = refl }) refl
    (subst (λ (qs : List StagedAppend). Grew c.args.self.now.parts qs) (sym c.in_ok-push.ensures.ok) (grew_push c.args.self.now.parts _))
    refl refl
