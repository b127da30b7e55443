-- Events one by one.
use Rattle.std.proofs.Common.{◌≡◌, ℕ, suc, List, [], ◌∷◌, ◌++◌, Option, Some, refl, sym, ◌∙◌, ap, reverse, drop, slice_set}
use Rattle.std.specs.Prelude.{slice_get, ◌-◌}
use Rattle.std.proofs.lemmas.List.{reverse-append}
use Rattle.ix_pikevm.specs.Code.{ended, replay}
use Rattle.ix_pikevm.specs.Replays.{replay_one, spans, Applies}
use Rattle.ix_pikevm.specs.declared.cells.Event.{Event}
use Rattle.ix_pikevm.specs.declared.cells.Event.TheVariants.{Began, Ended}
use Rattle.ix_pikevm.proofs.StepLemmas.{drop-get}

pub replay-cons : (blank : List (Option (ℕ × ℕ))) (e : Event) (es : List Event) → replay blank (e ∷ es) ≡ replay_one e (replay blank es)
replay-cons blank (Began place) es = refl
replay-cons blank (Ended number place) es = refl

pub applies-began : (place : ℕ) (began new : List ℕ) (groups : List (Option (ℕ × ℕ))) → new ≡ began ++ place ∷ [] →
    Applies (Began place) began groups new groups
applies-began place began new groups is = ap (λ l. record { began = l; groups = groups }) (ap reverse is
    ∙ reverse-append began (place ∷ []))

pub applies-ended : (number place from : ℕ) (began new : List ℕ) (groups after : List (Option (ℕ × ℕ))) → began ≡ new ++ from ∷ [] →
    after ≡ slice_set groups (number - 1) (Some (from, place)) →
    Applies (Ended number place) began groups new after
applies-ended number place from began new groups after is set =
    ap (λ g. record { began = reverse new; groups = g }) set
    ∙ sym (ap (ended number place groups) (ap reverse is ∙ reverse-append new (from ∷ [])))

pub applies-none : (number place : ℕ) (began new : List ℕ) (groups : List (Option (ℕ × ℕ))) → began ≡ [] → new ≡ [] →
    Applies (Ended number place) began groups new groups
applies-none number place began new groups is now =
    ap (λ l. record { began = reverse l; groups = groups }) now ∙ sym (ap (λ l. ended number place groups (reverse l)) is)

pub replay-more : (blank : List (Option (ℕ × ℕ))) (events : List Event) (n i : ℕ) (e : Event) (began new : List ℕ)
    (groups after : List (Option (ℕ × ℕ))) → n ≡ suc i → slice_get events i ≡ Some e →
    Applies e began groups new after → spans began groups ≡ replay blank (drop n events) → spans new after ≡ replay blank (drop i events)
replay-more blank events n i e began new groups after is got app s =
    app ∙ ap (replay_one e) s ∙ sym (replay-cons blank e (drop n events)) ∙ ap (λ k. replay blank (e ∷ drop k events)) is
    ∙ sym (ap (replay blank) (drop-get events i e got))
