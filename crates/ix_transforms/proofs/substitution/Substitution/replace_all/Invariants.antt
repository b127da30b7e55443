use Rattle.std.proofs.Common.{◌≡◌, ◌≤◌, ◌++◌, length}
use Rattle.std.specs.Prelude.{IfSome}
use Rattle.ix_match.specs.Matches.{LiesIn}
use Rattle.ix_transforms.specs.Matches.{and_on, matches}
use Rattle.ix_transforms.specs.Seds.{cut, replaced, raw_limit}
use Rattle.ix_transforms.proofs.ReplaceLemmas.{places_left}
use Rattle.ix_transforms.proofs.substitution.Substitution.replace_all.Given as goal

abbrev pub invariant-loop-next : goal.invariant-loop-next
invariant-loop-next l = record {
  so_far : cut (l.out ++ replaced l.self.parts.now l.self.text.now l.copied
      (and_on (λ q. matches l.self.pattern.now l.self.text.now q) l.next))
      ≡ cut (replaced l.self.parts.now l.self.text.now 0 (and_on (λ q. matches l.self.pattern.now l.self.text.now q) l.initial.next));
  lies : IfSome l.next (λ f. LiesIn l.self.text.now l.copied l.self.pattern.now.groups f);
  room : length l.out ≤ raw_limit;
  within : l.copied ≤ length l.self.text.now;
}

abbrev pub decreases-loop-next : goal.decreases-loop-next
decreases-loop-next l = places_left (length l.self.text.now) l.next
