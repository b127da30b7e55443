-- The text of an event, by its parts.
use Rattle.std.proofs.Common.{◌≡◌, ℕ, List, [], ◌∷◌, ◌++◌, sym, ◌∙◌, ap, append_assoc}
use Rattle.ix_base.specs.declared.events.Event.{Event}
use Rattle.ix_export.specs.EventLine.{field, time_text, middle, line}

regroup : (a b c d e f : List ℕ) → a ++ (b ++ c ++ d ++ e ++ f) ≡ a ++ b ++ c ++ d ++ e ++ f
regroup a b c d e f =
    sym (append_assoc a (b ++ c ++ d ++ e) f)
    ∙ ap (λ l. l ++ f) (sym (append_assoc a (b ++ c ++ d) e)
    ∙ ap (λ l. l ++ e) (sym (append_assoc a (b ++ c) d) ∙ ap (λ l. l ++ d) (sym (append_assoc a b c))))

-- what stands before the time, the time, what stands between it and the raw text, that text, and a
-- newline
pub line-of-parts : (event : Event) {before between : List ℕ} → before ≡ field event.index →
    between ≡ middle event.host event.source event.sourcetype event.meta →
    before ++ 9 ∷ time_text event.time ++ between ++ field event.raw ++ 10 ∷ [] ≡ line event
line-of-parts event {before} {between} p q =
    let start : List ℕ = field event.index ++ 9 ∷ time_text event.time in
    let whole : List ℕ = start ++ 9 ∷ field event.host ++ 9 ∷ field event.source ++ 9 ∷ field event.sourcetype ++ 9 ∷ field event.meta in
    ap (λ l. l ++ 9 ∷ time_text event.time ++ between ++ field event.raw ++ 10 ∷ []) p
    ∙ ap (λ l. start ++ l ++ field event.raw ++ 10 ∷ []) q
    ∙ ap (λ l. l ++ field event.raw ++ 10 ∷ []) (regroup start (9 ∷ field event.host) (9 ∷ field event.source) (9
    ∷ field event.sourcetype) (9 ∷ field event.meta) (9 ∷ []))
    ∙ ap (λ l. l ++ 10 ∷ []) (append_assoc whole (9 ∷ []) (field event.raw))
