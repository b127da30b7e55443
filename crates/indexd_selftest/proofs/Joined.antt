-- The parts of a line, one behind the other.
use Rattle.std.proofs.Common.{◌≡◌, ◌∙◌, ◌%◌, ℕ, List, ◌++◌, ap, append_assoc, codes}
use Rattle.indexd_selftest.specs.Lines.{clock, line, seven}

five_joined : (t a b c d e one two three four five : List ℕ) → one ≡ t ++ a → two ≡ one ++ b → three ≡ two ++ c → four ≡ three ++ d →
    five ≡ four ++ e → five ≡ t ++ (a ++ (b ++ (c ++ (d ++ e))))
five_joined t a b c d e one two three four five is_one is_two is_three is_four is_five =
    is_five ∙ ap (λ (l : List ℕ). l ++ e) is_four ∙ append_assoc three d e
    ∙ ap (λ (l : List ℕ). l ++ (d ++ e)) is_three ∙ append_assoc two c (d ++ e)
    ∙ ap (λ (l : List ℕ). l ++ (c ++ (d ++ e))) is_two ∙ append_assoc one b (c ++ (d ++ e))
    ∙ ap (λ (l : List ℕ). l ++ (b ++ (c ++ (d ++ e)))) is_one ∙ append_assoc t a (b ++ (c ++ (d ++ e)))

pub line_joined : (t one two three four five : List ℕ) (number : ℕ) → one ≡ t ++ codes "2023-11-14 " →
    two ≡ one ++ clock (number % 86400) → three ≡ two ++ codes " n=" → four ≡ three ++ seven number → five ≡ four ++ codes "\n" →
    five ≡ t ++ line number
unfolding line
line_joined t one two three four five number is_one is_two is_three is_four is_five =
    five_joined t (codes "2023-11-14 ") (clock (number % 86400)) (codes " n=") (seven number) (codes "\n") one two three four five
    is_one is_two is_three is_four is_five
