-- Values that are lent.
use Rattle.std.specs.Option.{option_copied}
use Rattle.ix_conf_values.specs.declared.transforms.Values.{Values as Lent}
use Rattle.ix_conf_values.specs.Transforms.{Values}

abbrev pub lent_values : Lent → Values
lent_values v = record {
  default_value = option_copied v.default_value;
  dest_key = option_copied v.dest_key;
  format = option_copied v.format;
  lookahead = option_copied v.lookahead;
  regex = option_copied v.regex;
  source_key = option_copied v.source_key;
  write_meta = option_copied v.write_meta;
}
