-- What is read of a request that is known: a head, and the body behind it.
use Rattle.std.proofs.Common.{◌≡◌, ◌≢◌, ◌<◌, ◌+◌, ℕ, suc, List, [], ◌∷◌, ◌++◌, length, sym, ap, ◌∙◌, subst, inl, inr, arith}
use Rattle.std.proofs.Common.{length-append, Option, Some, Ok, Err}
use Rattle.std.proofs.lemmas.List.{append-nil}
use Rattle.httparse.specs.Grammar.{RequestHead}
use Rattle.httparse.proofs.GrammarLemmas.{request_unique}
use Rattle.ix_heads.specs.Heads.{heading, HasHead}
use Rattle.ix_heads.specs.declared.faults.LinkFault.TheVariants as link
use Rattle.ix_http.specs.Asked.{judged, Follows, Asks, EndsInside, Fits}
use Rattle.ix_http.specs.Verdicts.{delimited_length}
use Rattle.ix_http.specs.declared.kinds.Ask.{Ask}
use Rattle.ix_http.specs.declared.kinds.Incoming.{Incoming}
use Rattle.ix_http.specs.declared.kinds.Incoming.TheVariants as was
use Rattle.ix_serve.specs.Answer.{Found}
use Rattle.indexd_selftest.specs.Given.{IsAsked}

-- a front that is as long as the whole is the whole
whole_front : (whole front rest : List ℕ) → whole ≡ front ++ rest → length front ≡ length whole → front ≡ whole
whole_front whole front [] is same = sym (is ∙ append-nil front)
whole_front whole front (b ∷ rest) is same =
    let sizes = ap length is ∙ length-append front (b ∷ rest) in
    absurd (too_long (length front) (length whole) (length rest) same sizes)
  where
    too_long : (f w r : ℕ) → f ≡ w → w ≡ f + suc r → ⊥
    too_long f w r same sizes = omega (arith, same, sizes)

module _ (text : List ℕ) (h : RequestHead) (body : List ℕ) (ask : Ask) (some : text ≢ []) (has : HasHead text h body)
    (known : delimited_length (heading h) ≡ Some (length body)) (is : judged (heading h) body ≡ was.Asked ask) where
  follows_is : (incoming : Incoming) (rest : List ℕ) → Follows (Some (length body)) (heading h) incoming body rest →
      incoming ≡ was.Asked ask
  follows_is incoming rest (front, took, said) =
      said ∙ ap (judged (heading h)) (whole_front body front rest took.0 took.1) ∙ is

  behind : (other : RequestHead) (rest left : List ℕ) (incoming : Incoming) → HasHead text other rest →
      Follows (delimited_length (heading other)) (heading other) incoming rest left → incoming ≡ was.Asked ask
  behind other rest left incoming found follows =
      let same = request_unique text h other body rest has.reads found.reads in
      let P : RequestHead → Type 0 = λ (k : RequestHead). Follows (delimited_length (heading k)) (heading k) incoming rest left in
      let Q : List ℕ → Type 0 = λ (l : List ℕ). Follows (delimited_length (heading h)) (heading h) incoming l left in
      let R : Option ℕ → Type 0 = λ (o : Option ℕ). Follows o (heading h) incoming body left in
      follows_is incoming left (subst R known (subst Q (sym same.1) (subst P (sym same.0) follows)))

  asks_is : (incoming : Incoming) (left : List ℕ) → Asks incoming text left → incoming ≡ was.Asked ask
  asks_is incoming left (inl nothing) = absurd (some nothing.0)
  asks_is incoming left (inr (inl bad)) = absurd (bad.0.none h body has)
  asks_is incoming left (inr (inr by)) = behind by.0 by.1 left incoming by.2 by.3

  -- the bytes do not end inside it
  none_shorter : (n rest whole : ℕ) → whole ≡ n → whole ≡ rest → rest < n → ⊥
  none_shorter n rest whole is same short = omega (arith, is, same, short)

  some_back : (a b : ℕ) → Some a ≡ Some b → a ≡ b
  some_back a b is = cc

  not_inside : EndsInside text → ⊥
  not_inside (inl cut) = cut.none_yet h body has.reads
  not_inside (inr by) =
      let same = request_unique text h by.0 body by.1 has.reads by.2.reads in
      let knows = sym known ∙ ap (λ (k : RequestHead). delimited_length (heading k)) same.0 ∙ by.4 in
      none_shorter by.3 (length by.1) (length body) (some_back (length body) by.3 knows) (ap length same.1) by.5

  -- nothing else is read
  pub reads : (found : Found) (left : List ℕ) → Fits found text left → IsAsked ask found
  reads (Ok incoming) left fits = asks_is incoming left fits
  reads (Err link.Failed) left fits = tt
  reads (Err link.Cut) left fits = not_inside fits.0
  reads (Err (link.NoMemory known_end)) left fits = tt
