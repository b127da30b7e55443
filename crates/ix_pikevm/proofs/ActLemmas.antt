-- What each instruction makes a thread do.
use Rattle.std.proofs.Common.{◌≡◌, ℕ, ◌+◌, ◌<◌, ◌≤◌, List, [], ◌∷◌, ◌++◌, length, Option, sym, ◌∙◌, ap, subst}
use Rattle.std.proofs.lemmas.List.{append-nil}
use Rattle.ix_pattern.specs.Ways.{Way}
use Rattle.ix_pikevm.specs.declared.code.Instr.{Instr}
use Rattle.ix_pikevm.specs.declared.cells.Event.{Event}
use Rattle.ix_pikevm.specs.declared.cells.Cell.{Cell}
use Rattle.ix_pikevm.specs.declared.cells.Thread.{Thread}
use Rattle.ix_pikevm.specs.declared.leaf.Leaf.{Leaf}
use Rattle.ix_pikevm.specs.declared.acts.Act.{Act}
use Rattle.ix_pikevm.specs.declared.acts.Act.TheVariants.{Fork, Go, Ready, Never, Stop}
use Rattle.ix_pikevm.specs.Leaf.{leaf_ways, at}
use Rattle.ix_pikevm.specs.Code.{Mean, history, thread_ways, tested}
use Rattle.ix_pikevm.specs.Acts.{Leads, Does, LeafDoes}
use Rattle.ix_pikevm.proofs.HistoryLemmas.{history-new}

pub leads-one : (w : Thread → List Way) (rank : ℕ → ℕ) (k : ℕ) (ways : List Way) (t : Thread) → ways ≡ w t → rank t.pc < k →
    Leads w rank k ways (t ∷ [])
leads-one w rank k ways t e h = record { same = e ∙ sym (append-nil (w t)); under = (h, tt) }

pub leads-two : (w : Thread → List Way) (rank : ℕ → ℕ) (k : ℕ) (ways : List Way) (s t : Thread) → ways ≡ w s ++ w t → (rank s.pc < k)
    × (rank t.pc < k) →
    Leads w rank k ways (s ∷ t ∷ [])
leads-two w rank k ways s t e h = record { same = e ∙ ap (λ l. w s ++ l) (sym (append-nil (w t))); under = (h.0, (h.1, tt)) }

-- behind an event
pub leads-event : (code : List Instr) (mean : Mean) (rank : ℕ →
    ℕ) (cells new later : List Cell) (p next : ℕ) (event : Event) (t after : Thread) →
    ((h : List Event) → mean t.pc h p ≡ mean next (event ∷ h) p) → rank next < rank t.pc → t.trail ≤ length cells →
    after.pc ≡ next → after.trail ≡ length cells + 1 → new ≡ cells ++ record { event = event; earlier = t.trail } ∷ [] →
    Leads (thread_ways mean (new ++ later) p) rank (rank t.pc) (thread_ways mean (new ++ later) p t) (after ∷ [])
leads-event code mean rank cells new later p next event t after gives falls known pc trail is =
    leads-one (thread_ways mean (new ++ later) p) rank (rank t.pc) (thread_ways mean (new ++ later) p t) after
    (gives (history (new ++ later) t.trail)
    ∙ ap (λ h. mean next h p) (sym (subst (λ n. history (n ++ later) (length cells + 1) ≡ event ∷ history (n ++ later) t.trail) (sym is)
    (history-new cells later (record { event = event; earlier = t.trail }) known)))
    ∙ ap (λ n. mean n (history (new ++ later) (length cells + 1)) p) (sym pc)
    ∙ ap (λ n. mean after.pc (history (new ++ later) n) p) (sym trail))
    (subst (λ n. rank n < rank t.pc) (sym pc) falls)

pub leaf-does : (code : List Instr) (mean : Mean) (blank : List (Option (ℕ × ℕ))) (rank : ℕ →
    ℕ) (cells : List Cell) (p : ℕ) (t : Thread) (next : ℕ) (leaf : Leaf) (ways : List Way) (a : Act) →
    thread_ways mean cells p t ≡ tested (mean next (history cells t.trail)) ways → leaf_ways leaf (at p []) ≡ ways →
    LeafDoes mean blank rank cells p (rank t.pc) t next leaf a → Does code mean blank rank cells p t a
leaf-does code mean blank rank cells p t next leaf ways (Fork a b) e l d = absurd d
leaf-does code mean blank rank cells p t next leaf ways (Go a) e l d =
    record { same = e ∙ ap (tested (mean next (history cells t.trail))) (sym l) ∙ d.same; under = d.under }
leaf-does code mean blank rank cells p t next leaf ways Ready e l d = absurd d
leaf-does code mean blank rank cells p t next leaf ways Never e l d =
    record { same = e ∙ ap (tested (mean next (history cells t.trail))) (sym l) ∙ d.same; under = d.under }
leaf-does code mean blank rank cells p t next leaf ways (Stop best) e l d =
    record { way = d.way; is = e ∙ ap (tested (mean next (history cells t.trail))) (sym l) ∙ d.is; best = d.best }
