use Rattle.std.proofs.Common.{◌∙◌}
use Rattle.ix_pikevm.proofs.FinderLemmas.{same-finder, same-room}
use Rattle.ix_match.proofs.search.Search.copy.Goals as goal

pub room_again-requires : goal.room_again-requires
room_again-requires c = same-room c.args.self.now.finder c.in_ok-finder.finder c.args.self.now.room c.in_ok-finder.ensures c.requires

pub returns-clause-search : goal.returns-clause-search
returns-clause-search c = λ rows k.
    record {
      search_is = record {
        finder_is = same-finder rows c.args.self.now.finder c.in_ok-finder.finder c.in_ok-finder.ensures k.search_is.finder_is;
        has_room = c.in_ok-room.ensures;
      };
      whole = c.in_ok-finder.ensures.width ∙ k.whole;
    }

pub returns-clause-program : goal.returns-clause-program
returns-clause-program c = c.in_ok-finder.ensures.program
