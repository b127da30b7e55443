-- The requests of a selftest, as they stand on a link.
use Rattle.std.specs.Prelude.{ℕ, List, [], ◌∷◌, ◌++◌, length, codes}
use Rattle.indexd_selftest.specs.Lines.{digit}

-- metadata as a body
abbrev pub meta_body : List ℕ
meta_body = codes "{\"host\":\"h\",\"source\":\"s\"}"

abbrev pub begin_request : List ℕ
begin_request = codes "PUT /channels/gen HTTP/1.1\r\nContent-Length: 25\r\n\r\n" ++ meta_body

abbrev pub end_request : List ℕ
end_request = codes "POST /channels/gen/end HTTP/1.1\r\n\r\n"

-- a length of at most 9,999 bytes
abbrev pub four : ℕ → List ℕ
four number = digit 1000 number ∷ digit 100 number ∷ digit 10 number ∷ digit 1 number ∷ []

abbrev pub block_request : List ℕ → List ℕ
block_request block =
    codes "POST /channels/gen/blocks HTTP/1.1\r\nContent-Length: " ++ four (length block) ++ codes "\r\n\r\n" ++ block
