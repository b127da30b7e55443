use Rattle.ix_coding.proofs.Again.{byte_again, four_again, eight_again, signed_again, flag_again, string_again, option_again}
use Rattle.ix_coding.proofs.laws.read_back.Goals as goal

pub returns : goal.returns
returns c = record {
  byte = λ n rest h. byte_again n rest;
  four = four_again;
  eight = eight_again;
  signed = signed_again;
  flag = λ set rest h. flag_again set rest;
  string = string_again;
  option = option_again;
}
