use Rattle.std.proofs.Common.{rules, ◌≡◌, ◌∙◌, Bool, take, refl, ap, subst, inl, inr, w64}
use Rattle.std.specs.Prelude.{Err}
use Rattle.std.proofs.lemmas.Int.{to_z-of_z}
use mir.Val.{SFits}
use Rattle.ix_run.specs.Giving.{given_all}
use Rattle.indexd_run.specs.Opened.{is_configured, WhenOpen, HasRun, course}
use Rattle.std.specs.List.{AllByRecursion}
use Rattle.indexd_run.specs.Previews.{Fed, HasFed}
use Rattle.indexd_run.specs.Stops.{loses_in}
use Rattle.indexd_run.specs.declared.stop.Stop.{Stop}
use Rattle.indexd_run.specs.declared.stop.Stop.TheVariants as stops
use Rattle.indexd_run.proofs.Feeding.{none_taken, fed_sound}
use Rattle.ix_run.proofs.Stored.{all_taken}
use Rattle.indexd_run.proofs.Shortening.{fed_taken}
use Rattle.indexd_run.proofs.Blaming.{once_mounted}
use Rattle.indexd_run.proofs.Joining.{front_has, begun_taken, fed_when, shut_sound}
use Rattle.indexd_run.proofs.Shortening.{ends_as}
use Rattle.indexd_run.proofs.Undamaged.{seen_on}
use Rattle.indexd_run.proofs.Tasks.{ends_weaker, on_ok_by, if_err_by}
use Rattle.indexd_run.proofs.preview.run_preview.Goals as goal

pub returns-in-Err-clause-stopped : goal.returns-in-Err-clause-stopped
returns-in-Err-clause-stopped g c = λ past chooser taken begins image seen.
    inl (c.in-Err.ensures.stopped past chooser taken begins image seen, refl)

pub returns-in-Err-clause-sound : goal.returns-in-Err-clause-sound
returns-in-Err-clause-sound g c = λ unsound past chooser taken begins image seen.
    shut_sound c.in-Err.stop g.D.Disk g.M.StoreMemory.takes _ past (course c.args.config _ _ c.args.disk.now c.open.new.disk)
    (cc (unsound)) (c.in-Err.ensures.stopped past chooser taken begins image seen)

pub returns-clause-sound : goal.returns-clause-sound
returns-clause-sound g c = λ unsound past chooser taken begins image seen.
    let opened = c.in-Ok.ensures.opened past chooser taken begins image seen in
    let taken_now = begun_taken g.M.StoreMemory.takes g.met.M.StoreMemory.ticks_are_taken past.choose
    (take opened.count past.history) c.args.config
    (is_configured past.choose (take opened.count past.history) c.args.config) opened.configured
    c.requires.settings (front_has g.M.StoreMemory.takes opened.count past.history taken) opened.configures in
    fed_sound g.D.Disk _ c.in-Ok.store.run g.M.StoreMemory.holds past.choose
    (given_all past.choose (take opened.count past.history) opened.configured)
    opened.count c.store_preview.new.store c.open.new.disk c.store_preview.new.disk
    c.args.origin _ c.store_preview.result (g.S.Source.left c.args.input.now) (g.S.Source.left c.store_preview.new.input) unsound
    (c.store_preview.ensures.ends past.choose (given_all past.choose (take opened.count past.history) opened.configured) opened.count
    chooser taken_now
    opened.hold)

pub returns-clause-done : goal.returns-clause-done
returns-clause-done g c = on_ok_by c.store_preview.result _ (λ done is. λ past chooser taken begins image seen.
    let fits : SFits w64 c.now-moment.result = search rules in
    let opened = c.in-Ok.ensures.opened past chooser taken begins image seen in
    let taken_now = begun_taken g.M.StoreMemory.takes g.met.M.StoreMemory.ticks_are_taken past.choose
    (take opened.count past.history) c.args.config
    (is_configured past.choose (take opened.count past.history) c.args.config) opened.configured
    c.requires.settings (front_has g.M.StoreMemory.takes opened.count past.history taken) opened.configures in
    let begun = given_all past.choose (take opened.count past.history) opened.configured in
    let fed = Fed past.choose opened.count begun c.args.origin c.now-moment.result c.store_preview.result (g.S.Source.left c.args.input.now)
    (g.S.Source.left c.store_preview.new.input) in
    let ends = simp to_z-of_z at (c.store_preview.ensures.ends past.choose
    (given_all past.choose (take opened.count past.history) opened.configured)
    opened.count chooser taken_now opened.hold) in
    subst (λ (lost : Bool). HasRun lost g.D.Disk g.M.StoreMemory.takes g.M.Book.ManifestState.fits past
    (WhenOpen past.choose c.args.config (g.C.Clock.ahead c.args.clock.now)
    (HasFed past.choose c.args.origin c.store_preview.result (g.C.Clock.ahead c.now-moment.new.self) (g.S.Source.left c.args.input.now)
    (g.S.Source.left c.store_preview.new.input))) c.args.disk.now c.store_preview.new.disk) (ap loses_in is)
    (fed_when g.D.Disk _ g.M.StoreMemory.holds past c.args.config c.in-Ok.store (g.C.Clock.ahead c.args.clock.now)
    (g.C.Clock.ahead c.open.new.clock) c.args.disk.now c.open.new.disk c.store_preview.new.disk opened
    c.store_preview.new.store c.args.origin c.now-moment.result (g.C.Clock.ahead c.now-moment.new.self) c.now-moment.ensures
    (g.S.Source.left c.args.input.now) (g.S.Source.left c.store_preview.new.input) g.M.StoreMemory.takes c.store_preview.result
    (ends_weaker g.D.Disk _ c.in-Ok.store.run g.M.StoreMemory.holds past.choose begun opened.count c.store_preview.new.store c.open.new.disk
    c.store_preview.new.disk (loses_in c.store_preview.result) fed (λ orders. fed orders
    × AllByRecursion g.M.StoreMemory.takes (given_all past.choose begun orders))
    (λ orders was. (
      was,
      all_taken g.M.StoreMemory.takes g.met.M.StoreMemory.ticks_are_taken past.choose begun orders taken_now
          (fed_taken g.M.StoreMemory.takes past.choose opened.count begun c.args.origin c.now-moment.result c.store_preview.result
          (g.S.Source.left c.args.input.now) (g.S.Source.left c.store_preview.new.input) orders
          (c.requires.ends c.now-moment.result) (c.requires.begins c.now-moment.result) (c.requires.adds c.now-moment.result) was),
    )) ends)))

pub returns-clause-stopped : goal.returns-clause-stopped
returns-clause-stopped g c = if_err_by c.store_preview.result _ (λ stop is. λ past chooser taken begins image seen.
    let fits : SFits w64 c.now-moment.result = search rules in
    let opened = c.in-Ok.ensures.opened past chooser taken begins image seen in
    let taken_now = begun_taken g.M.StoreMemory.takes g.met.M.StoreMemory.ticks_are_taken past.choose
    (take opened.count past.history) c.args.config
    (is_configured past.choose (take opened.count past.history) c.args.config) opened.configured
    c.requires.settings (front_has g.M.StoreMemory.takes opened.count past.history taken) opened.configures in
    let begun = given_all past.choose (take opened.count past.history) opened.configured in
    let fed = Fed past.choose opened.count begun c.args.origin c.now-moment.result c.store_preview.result (g.S.Source.left c.args.input.now)
    (g.S.Source.left c.store_preview.new.input) in
    let ends = simp to_z-of_z at (c.store_preview.ensures.ends past.choose
    (given_all past.choose (take opened.count past.history) opened.configured)
    opened.count chooser taken_now opened.hold) in
    inr (subst (λ (lost : Bool). HasRun lost g.D.Disk g.M.StoreMemory.takes g.M.Book.ManifestState.fits past
    (WhenOpen past.choose c.args.config (g.C.Clock.ahead c.args.clock.now)
    (HasFed past.choose c.args.origin c.store_preview.result (g.C.Clock.ahead c.now-moment.new.self) (g.S.Source.left c.args.input.now)
    (g.S.Source.left c.store_preview.new.input))) c.args.disk.now c.store_preview.new.disk) (ap loses_in is)
    (fed_when g.D.Disk _ g.M.StoreMemory.holds past c.args.config c.in-Ok.store (g.C.Clock.ahead c.args.clock.now)
    (g.C.Clock.ahead c.open.new.clock) c.args.disk.now c.open.new.disk c.store_preview.new.disk opened
    c.store_preview.new.store c.args.origin c.now-moment.result (g.C.Clock.ahead c.now-moment.new.self) c.now-moment.ensures
    (g.S.Source.left c.args.input.now) (g.S.Source.left c.store_preview.new.input) g.M.StoreMemory.takes c.store_preview.result
    (ends_weaker g.D.Disk _ c.in-Ok.store.run g.M.StoreMemory.holds past.choose begun opened.count c.store_preview.new.store c.open.new.disk
    c.store_preview.new.disk (loses_in c.store_preview.result) fed (λ orders. fed orders
    × AllByRecursion g.M.StoreMemory.takes (given_all past.choose begun orders))
    (λ orders was. (
      was,
      all_taken g.M.StoreMemory.takes g.met.M.StoreMemory.ticks_are_taken past.choose begun orders taken_now
          (fed_taken g.M.StoreMemory.takes past.choose opened.count begun c.args.origin c.now-moment.result c.store_preview.result
          (g.S.Source.left c.args.input.now) (g.S.Source.left c.store_preview.new.input) orders
          (c.requires.ends c.now-moment.result) (c.requires.begins c.now-moment.result) (c.requires.adds c.now-moment.result) was),
    )) ends))))

pub returns-in-Err-clause-read : goal.returns-in-Err-clause-read
returns-in-Err-clause-read g c = none_taken c.in-Err.stop (g.S.Source.left c.args.input.now) c.in-Err.ensures.unread

pub returns-in-Err-clause-undamaged : goal.returns-in-Err-clause-undamaged
returns-in-Err-clause-undamaged g c = λ file at is.
    let was : c.open.result ≡ Err (stops.Damaged file at) = cc (is, c.in-Err.is) in
    c.open.ensures.undamaged file at was

pub returns-clause-undamaged : goal.returns-clause-undamaged
returns-clause-undamaged g c = λ file at is past chooser taken begins image seen.
    let mounted = seen_on _ (g.D.Disk.seen c.args.disk.now) (g.D.Disk.seen c.open.new.disk) image c.open.ensures.told seen in
    let later = seen_on _ (g.D.Disk.seen c.open.new.disk) (g.D.Disk.seen c.store_preview.new.disk) mounted.0 c.store_preview.ensures.told
    mounted.1 in
    let opened = c.in-Ok.ensures.opened past chooser taken begins image seen in
    let taken_now = begun_taken g.M.StoreMemory.takes g.met.M.StoreMemory.ticks_are_taken past.choose
    (take opened.count past.history) c.args.config
    (is_configured past.choose (take opened.count past.history) c.args.config) opened.configured
    c.requires.settings (front_has g.M.StoreMemory.takes opened.count past.history taken) opened.configures in
    c.store_preview.ensures.undamaged file at is past.choose
    (given_all past.choose (take opened.count past.history) opened.configured) opened.count
    chooser taken_now opened.hold later.0 later.1

pub returns-clause-short : goal.returns-clause-short
returns-clause-short g c = ends_as g.D.Disk _ c.store_preview.result c.args.disk.now c.store_preview.new.disk c.store_preview.ensures.short

pub returns-clause-blamed : goal.returns-clause-blamed
returns-clause-blamed g c = if_err_by c.store_preview.result _ (λ stop is.
    once_mounted g.D.Disk _ g.M.StoreMemory.gives_none c.args.disk.now c.store_preview.new.disk stop c.in-Ok.ensures.mounted
    (λ file at damaged. c.store_preview.ensures.placed file at (is ∙ ap (λ (s : Stop). Err s) damaged)))
