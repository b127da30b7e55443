-- A run over one link that has ended with its link has read all of it.
use Rattle.std.proofs.Common.{◌≡◌, ◌⊎◌, ℕ, true, false, List, [], ◌∷◌, length, refl, subst, inl, inr, ⊎_elim, Option, Some}
use Rattle.std.proofs.Common.{None, Ok, Err}
use Rattle.std.specs.Prelude.{IfSome}
use Rattle.ix_base.specs.Told.{Told}
use Rattle.ix_heads.specs.Heads.{Heading}
use Rattle.ix_heads.specs.declared.faults.LinkFault.TheVariants as link
use Rattle.ix_http.specs.Asked.{Asks, Fits, Follows, asked_of, by_fault, by_route, judged, or_refused}
use Rattle.ix_http.specs.Routes as routes
use Rattle.ix_http.specs.Routes.{Route}
use Rattle.ix_http.specs.declared.kinds.Ask.{Ask}
use Rattle.ix_http.specs.declared.kinds.HttpFault.{HttpFault}
use Rattle.ix_http.specs.declared.kinds.Incoming.TheVariants as was
use Rattle.ix_serve.specs.Answer.{Found}
use Rattle.ix_sessions.specs.Feeding.{most_requests}
use Rattle.ix_sessions.specs.Reading.{AreRead, AreWhole, EndsBehind, ReadsTo, end_by}
use Rattle.ix_sessions.specs.declared.feed.Fed.TheVariants as fed

-- ---- no request is the end of a link

not_refused : (fault : HttpFault) (ask : Option Ask) → was.Ended ≡ or_refused fault ask → ⊥
not_refused fault None is = cc
not_refused fault (Some ask) is = cc

not_asked : (route : Route) (query body : List ℕ) → was.Ended ≡ asked_of route query body → ⊥
unfolding asked_of
not_asked (routes.channel name) query body is = not_refused _ _ is
not_asked (routes.blocks name) query body is = cc
not_asked (routes.end name) query body is = cc
not_asked routes.acks query body is = not_refused _ _ is
not_asked routes.buckets query body is = cc
not_asked (routes.events name) query body is = not_refused _ _ is

not_routed : (route : Option Route) (query body : List ℕ) → was.Ended ≡ by_route route query body → ⊥
not_routed None query body is = cc
not_routed (Some route) query body is = not_asked route query body is

not_faulty : (fault : Option HttpFault) (route : Option Route) (query body : List ℕ) → was.Ended ≡ by_fault fault route query body → ⊥
not_faulty (Some fault) route query body is = cc
not_faulty None route query body is = not_routed route query body is

not_judged : (h : Heading) (body : List ℕ) → was.Ended ≡ judged h body → ⊥
unfolding judged
not_judged h body is = not_faulty _ _ _ body is

not_following : (n : Option ℕ) (h : Heading) (rest new : List ℕ) → Follows n h was.Ended rest new → ⊥
not_following None h rest new follows = cc (follows.2)
not_following (Some n) h rest new follows = not_judged h follows.0 follows.2

-- ---- what is left

none_left : (old new : List ℕ) → Asks was.Ended old new → new ≡ []
none_left old new (inl nothing) = nothing.1
none_left old new (inr (inl bad)) = absurd (cc (bad.1))
none_left old new (inr (inr by)) = absurd (not_following _ _ by.1 new by.3)

none_told : (left left' : Option (List ℕ)) → Told (Fits (Ok was.Ended)) left left' → IfSome left' (λ bytes. bytes ≡ [])
none_told None None told = tt
none_told None (Some new) told = absurd told
none_told (Some old) None told = tt
none_told (Some old) (Some new) told = none_left old new told

is_end : (request : ℕ) (read : Found) → end_by request read ≡ Some fed.Ended → read ≡ Ok was.Ended
is_end request (Ok was.Ended) is = refl
is_end request (Ok (was.Asked ask)) is = absurd (cc)
is_end request (Ok (was.Refused why true)) is = absurd (cc)
is_end request (Ok (was.Refused why false)) is = absurd (cc)
is_end request (Err link.Failed) is = absurd (cc)
is_end request (Err link.Cut) is = absurd (cc)
is_end request (Err (link.NoMemory true)) is = absurd (cc)
is_end request (Err (link.NoMemory false)) is = absurd (cc)

module _ (left left' : Option (List ℕ)) where
  at_end : (reads : List Found) → AreRead reads left left' → EndsBehind fed.Ended reads
      ⊎ ((fed.Ended ≡ fed.Endless) × (length reads ≡ most_requests) × AreWhole reads) → IfSome left' (λ bytes. bytes ≡ [])
  at_end [] are (inl none) = absurd none
  at_end [] are (inr all) = absurd (cc (all.0))
  at_end (last ∷ earlier) are (inr all) = absurd (cc (all.0))
  at_end (last ∷ earlier) are (inl ends) = ⊎_elim
      (λ by. none_told are.0 left' (subst (λ (read : Found). Told (Fits read) are.0 left') (is_end _ last by) are.2))
      (λ no. absurd no) ends.0

  pub ended : ReadsTo fed.Ended left left' → IfSome left' (λ bytes. bytes ≡ [])
  ended reads = at_end reads.reads reads.are reads.ends
