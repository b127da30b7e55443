use Rattle.ix_coding.specs.Spelling.{byte, four, eight, signed, flag, string, option, IsShort, IsShortOption, Is8, Is32, Is64, IsSigned64}
use Rattle.ix_coding.specs.Spelling.{Always}
use Rattle.ix_coding.specs.Reading.{byte_at, four_at, eight_at, signed_at, flag_at, string_at, option_at}
use Rattle.ix_coding.proofs.Again.{byte_again, four_again, eight_again, signed_again, flag_again, string_again, option_again, one_front_of}
use Rattle.ix_coding.proofs.laws.one_front.Goals as goal

pub returns : goal.returns
returns c = record {
  byte = one_front_of Is8 byte byte_at (λ n rest h. byte_again n rest);
  four = one_front_of Is32 four four_at four_again;
  eight = one_front_of Is64 eight eight_at eight_again;
  signed = one_front_of IsSigned64 signed signed_at signed_again;
  flag = one_front_of Always flag flag_at (λ set rest h. flag_again set rest);
  string = one_front_of IsShort string string_at string_again;
  option = one_front_of IsShortOption (option string) (option_at string_at) option_again;
}
