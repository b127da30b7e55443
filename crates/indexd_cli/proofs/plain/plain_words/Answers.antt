use Rattle.indexd_cli.proofs.PlainLemmas.{preview_is_asked, whole_preview_is_asked, btool_is_asked, serve_is_asked, monitor_is_asked}
use Rattle.indexd_cli.proofs.PlainLemmas.{export_is_asked, range_is_asked, roll_is_asked, thaw_is_asked, selftest_is_asked}
use Rattle.indexd_cli.proofs.PlainLemmas.{single_words_are_asked, others_are_usage}
use Rattle.indexd_cli.proofs.plain.plain_words.Goals as goal

pub returns : goal.returns
returns c = record {
  preview = preview_is_asked;
  whole_preview = whole_preview_is_asked;
  btool = btool_is_asked;
  serve = serve_is_asked;
  monitor = monitor_is_asked;
  export = export_is_asked;
  range = range_is_asked;
  roll = roll_is_asked;
  thaw = thaw_is_asked;
  selftest = selftest_is_asked;
  single_words = single_words_are_asked;
  others = others_are_usage;
}
