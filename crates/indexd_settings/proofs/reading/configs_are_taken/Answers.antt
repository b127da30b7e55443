use Rattle.indexd_settings.proofs.GivenLemmas.{is_config}
use Rattle.indexd_settings.proofs.reading.configs_are_taken.Goals as goal

pub returns : goal.returns
returns c = λ files config moment given. is_config c.kept_is_config.ensures c.read_names_are_short.ensures files given.found config
    given.merged given.given
