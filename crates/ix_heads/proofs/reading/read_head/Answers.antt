use Rattle.std.proofs.Common.{◌≡◌, ℕ, ◌+◌, ◌<◌, List, [], ◌∷◌, ◌++◌, take, length, slice_set, arith, inl, ap, ◌∙◌, sym, subst, Bool, true}
use Rattle.std.proofs.Common.{false}
use Rattle.std.proofs.lemmas.Grind.{common_steps}
use Rattle.std.proofs.lemmas.List.{length-take-le}
use Rattle.httparse.specs.Grammar.{MayBecomeRequest}
use Rattle.ix_heads.specs.Fronts.{Fronts}
use Rattle.ix_heads.proofs.ToldLemmas.{told_map, told_join}
use Rattle.ix_heads.proofs.FrontLemmas.{no_head_empty}
use Rattle.ix_heads.proofs.MayLemmas.{fronts_may, soon_all, soon_last}
use Rattle.ix_heads.proofs.ReadLemmas.{reads_nothing, reads_on}
use Rattle.ix_heads.proofs.HeadLemmas.{took_nothing, took_byte, full_headless, end_fits, bad_fits, whole_fits, memory_fits}
use Rattle.ix_heads.proofs.reading.read_head.Goals as goal

-- the bytes with one more
more_taken : (bytes : List ℕ) (i b : ℕ) → i < length bytes → take (i + 1) (slice_set bytes i b) ≡ take i bytes ++ b ∷ []
more_taken bytes i b inside = grind (arith, common_steps)

one_more_len : (bytes : List ℕ) (i b : ℕ) → i < length bytes → length (take (i + 1) (slice_set bytes i b)) ≡ i + 1
one_more_len bytes i b inside = grind (arith, common_steps)

true_false : {b : Bool} → b ≡ true → b ≡ false → ⊥
true_false p q = cc

pub loop-i-init : goal.loop-i-init
loop-i-init g c = record {
  taken = took_nothing (g.K.Link.left c.args.link.now);
  none = no_head_empty;
  fronts = c.new-scan.ensures;
  reads = reads_nothing _ _ _;
}

pub judge-requires-clause-fronts : goal.judge-requires-clause-fronts
judge-requires-clause-fronts g c =
    let inside : c.loop-i.i < length c.loop-i.bytes = omega (arith, c.loop-i.auto.bytes, c.requires.bytes, c.loop-i-test.true) in
    λ idle. subst (Fronts c.take.new.self.part) (sym (more_taken c.loop-i.bytes c.loop-i.i c.in-Ok-Some.byte inside))
    (c.take.ensures.grown (take c.loop-i.i c.loop-i.bytes) c.loop-i.invariant.none c.loop-i.invariant.fronts
    (λ due. absurd (true_false due idle)))

pub loop-i-preserved : goal.loop-i-preserved
loop-i-preserved g c =
    let inside : c.loop-i.i < length c.loop-i.bytes = omega (arith, c.loop-i.auto.bytes, c.requires.bytes, c.loop-i-test.true) in
    let byte = rw c.in-Ok-Some.field-0-is at c.in-Ok-Some.ensures.taken in
    let judged = rw c.in-Ok-Open.field-0-is at c.in-Ok-Open.ensures.judged in
    let more = more_taken c.loop-i.bytes c.loop-i.i c.in-Ok-Some.byte inside in
    record {
      taken = told_join (λ old mid new p q. took_byte _ _ c.in-Ok-Some.byte old mid new more p q) _ _ _ c.loop-i.invariant.taken byte;
      none = judged.0;
      fronts = subst (Fronts c.take.new.self.part) (sym more)
          (c.take.ensures.grown (take c.loop-i.i c.loop-i.bytes) c.loop-i.invariant.none c.loop-i.invariant.fronts
          (λ due. subst MayBecomeRequest more judged.1));
      reads = reads_on c.loop-i.invariant.reads c.in-Ok-Some.ensures.reads;
    }

pub returns-in-Ok-None-clause-read : goal.returns-in-Ok-None-clause-read
returns-in-Ok-None-clause-read g c =
    let size = length-take-le c.loop-i.i c.loop-i.bytes (omega (arith, c.loop-i.auto.bytes, c.requires.bytes, c.loop-i-test.true)) in
    let may = fronts_may c.loop-i.scan.part (take c.loop-i.i c.loop-i.bytes) c.loop-i.invariant.none c.loop-i.invariant.fronts in
    let end = rw c.in-Ok-None.field-0-is at c.in-Ok-None.ensures.taken in
    told_join (λ old mid new p q. end_fits _ _ c.at_end.result (take c.loop-i.i c.loop-i.bytes) old mid new
    (omega (arith, size, c.loop-i-test.true)) c.loop-i.invariant.none (soon_all (take c.loop-i.i c.loop-i.bytes) may) c.at_end.ensures p
    q) _ _ _ c.loop-i.invariant.taken end

pub returns-in-Ok-Bad-clause-read : goal.returns-in-Ok-Bad-clause-read
returns-in-Ok-Bad-clause-read g c =
    let inside : c.loop-i.i < length c.loop-i.bytes = omega (arith, c.loop-i.auto.bytes, c.requires.bytes, c.loop-i-test.true) in
    let len = one_more_len c.loop-i.bytes c.loop-i.i c.in-Ok-Some.byte inside in
    let byte = rw c.in-Ok-Some.field-0-is at c.in-Ok-Some.ensures.taken in
    let took = told_join (λ old mid new p q. took_byte _ _ c.in-Ok-Some.byte old mid new
    (more_taken c.loop-i.bytes c.loop-i.i c.in-Ok-Some.byte inside) p q) _ _ _ c.loop-i.invariant.taken byte in
    let judged = rw c.in-Ok-Bad.field-0-is at c.in-Ok-Bad.ensures.judged in
    let may = fronts_may c.loop-i.scan.part (take c.loop-i.i c.loop-i.bytes) c.loop-i.invariant.none c.loop-i.invariant.fronts in
    let soon = soon_last _ (take c.loop-i.i c.loop-i.bytes) c.in-Ok-Some.byte
    (more_taken c.loop-i.bytes c.loop-i.i c.in-Ok-Some.byte inside) may in
    told_map (λ old new t. bad_fits _ old new (omega (arith, len, c.loop-i-test.true)) soon judged t) _ _ took

pub returns-in-Ok-Whole-clause-read : goal.returns-in-Ok-Whole-clause-read
returns-in-Ok-Whole-clause-read g c =
    let inside : c.loop-i.i < length c.loop-i.bytes = omega (arith, c.loop-i.auto.bytes, c.requires.bytes, c.loop-i-test.true) in
    let len = one_more_len c.loop-i.bytes c.loop-i.i c.in-Ok-Some.byte inside in
    let byte = rw c.in-Ok-Some.field-0-is at c.in-Ok-Some.ensures.taken in
    let took = told_join (λ old mid new p q. took_byte _ _ c.in-Ok-Some.byte old mid new
    (more_taken c.loop-i.bytes c.loop-i.i c.in-Ok-Some.byte inside) p q) _ _ _ c.loop-i.invariant.taken byte in
    let judged = rw c.in-Ok-Whole.field-0-is at c.in-Ok-Whole.ensures.judged in
    let bytes = slice_set c.loop-i.bytes c.loop-i.i c.in-Ok-Some.byte in
    told_map (λ old new t. whole_fits _ bytes _ _ old new (omega (arith, len, c.loop-i-test.true))
    (ap (λ n. take n bytes) (judged.len ∙ len)) judged t) _ _ took

pub returns-in-Err-judge-clause-read : goal.returns-in-Err-judge-clause-read
returns-in-Err-judge-clause-read g c =
    let inside : c.loop-i.i < length c.loop-i.bytes = omega (arith, c.loop-i.auto.bytes, c.requires.bytes, c.loop-i-test.true) in
    let byte = rw c.in-Ok-Some.field-0-is at c.in-Ok-Some.ensures.taken in
    let took = told_join (λ old mid new p q. took_byte _ _ c.in-Ok-Some.byte old mid new
    (more_taken c.loop-i.bytes c.loop-i.i c.in-Ok-Some.byte inside) p q) _ _ _ c.loop-i.invariant.taken byte in
    told_map (λ old new t. memory_fits [] [] _ old new c.in-Err-judge.ensures.judged t) _ _ took

pub returns-clause-read : goal.returns-clause-read
returns-clause-read g c =
    let size = length-take-le c.loop-i.i c.loop-i.bytes
    (omega (arith, c.loop-i.auto.bytes, c.requires.bytes, c.loop-i.auto.i-end, c.loop-i-test.false)) in
    let may = fronts_may c.loop-i.scan.part (take c.loop-i.i c.loop-i.bytes) c.loop-i.invariant.none c.loop-i.invariant.fronts in
    told_map (λ old new took. inl (full_headless (take c.loop-i.i c.loop-i.bytes) old new
    (omega (arith, size, c.loop-i.auto.i-end, c.loop-i-test.false)) c.loop-i.invariant.none (soon_all _ may) took)) _ _
    c.loop-i.invariant.taken
