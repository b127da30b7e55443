-- What a pair of a file says, by whether its key is empty.
use Rattle.std.proofs.Common.{◌≡◌, ℕ, ◌==◌, length, arith, Bool, true, false, List, [], ◌∷◌, ◌++◌, sym, ap, ◌∙◌}
use Rattle.std.proofs.lemmas.Bool.{true≢false, ne_eqb}
use Rattle.ix_conf.specs.declared.layers.MergedEntry.{MergedEntry}
use Rattle.ix_conf.specs.declared.entries.Entry.TheVariants.{Pair}
use Rattle.ix_conf.specs.Value.{own, said_by}

pub said_key : (layer stanza key value lent : List ℕ) (none : Bool) (first last : MergedEntry) (begun entries : List MergedEntry) →
    begun ≡ [] → lent ≡ stanza → first ≡ own lent
    → last ≡ record { stanza = stanza; key = key; value = value; layer = layer } → entries ≡ begun ++ first ∷ [] ++ last ∷ [] →
    none ≡ (length key == 0) → none ≡ false
    → entries ≡ said_by layer (Pair stanza key value)
said_key layer stanza [] value lent none first last begun entries h1 h2 h3 h4 h5 is told = absurd (true≢false (sym is ∙ told))
said_key layer stanza (b ∷ key) value lent none first last begun entries h1 h2 h3 h4 h5 is told = h5
    ∙ (λ i. h1 i ++ (h3 ∙ ap own h2) i ∷ [] ++ h4 i ∷ [])

pub said_no_key : (layer stanza key value lent : List ℕ) (none : Bool) (first : MergedEntry) (begun entries : List MergedEntry) →
    begun ≡ [] → lent ≡ stanza → first ≡ own lent
    → entries ≡ begun ++ first ∷ [] → none ≡ (length key == 0) → none ≡ true → entries ≡ said_by layer (Pair stanza key value)
said_no_key layer stanza [] value lent none first begun entries h1 h2 h3 h4 is told = h4 ∙ (λ i. h1 i ++ (h3 ∙ ap own h2) i ∷ [])
said_no_key layer stanza (b ∷ key) value lent none first begun entries h1 h2 h3 h4 is told =
    let some : (length (b ∷ key) == 0) ≡ false = ne_eqb (length (b ∷ key)) 0 (λ e. absurd (omega arith)) in
    absurd (true≢false (sym told ∙ is ∙ some))
