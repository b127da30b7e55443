-- The time zones that are known without any file: a POSIX rule for each name.
use Rattle.std.specs.Prelude.{ℕ, List, [], ◌∷◌, codes}
use Rattle.ix_conf.specs.declared.entries.Entry.{Entry}
use Rattle.ix_conf.specs.declared.entries.Entry.TheVariants.{Stanza, Pair}

-- a stanza with a rule for each zone
abbrev pub zone_entries : List (List ℕ × List ℕ) → List Entry
zone_entries [] = []
zone_entries (zone ∷ zones) = Stanza zone.0 ∷ Pair zone.0 (codes "RULE") zone.1 ∷ zone_entries zones

abbrev pub zones : List (List ℕ × List ℕ)
zones =
    (codes "UTC", codes "UTC0")
    ∷ (codes "GMT", codes "GMT0")
    ∷ (codes "US/Eastern", codes "EST5EDT,M3.2.0,M11.1.0")
    ∷ (codes "America/New_York", codes "EST5EDT,M3.2.0,M11.1.0")
    ∷ (codes "US/Central", codes "CST6CDT,M3.2.0,M11.1.0")
    ∷ (codes "America/Chicago", codes "CST6CDT,M3.2.0,M11.1.0")
    ∷ (codes "US/Mountain", codes "MST7MDT,M3.2.0,M11.1.0")
    ∷ (codes "America/Denver", codes "MST7MDT,M3.2.0,M11.1.0")
    ∷ (codes "US/Pacific", codes "PST8PDT,M3.2.0,M11.1.0")
    ∷ (codes "America/Los_Angeles", codes "PST8PDT,M3.2.0,M11.1.0")
    ∷ (codes "Europe/London", codes "GMT0BST,M3.5.0/1,M10.5.0")
    ∷ (codes "Europe/Berlin", codes "CET-1CEST,M3.5.0,M10.5.0/3")
    ∷ []
