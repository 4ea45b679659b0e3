use Rattle.std.specs.Prelude.{ℕ, List, [], ◌∷◌, Option, codes, find}
use Rattle.std.specs.Str.{bytes_eq}
use Rattle.capfilter.specs.declared.word.Word.{Word}
use Rattle.capfilter.specs.declared.word.Word.TheVariants.{And, Or, Not, Open, Close, Tcp, Udp, Ip, Ip6, Source, Target, Host, Net, Port}

-- the words of the language
abbrev pub spelling : Word → List ℕ
spelling And = codes "and"
spelling Or = codes "or"
spelling Not = codes "not"
spelling Open = codes "("
spelling Close = codes ")"
spelling Tcp = codes "tcp"
spelling Udp = codes "udp"
spelling Ip = codes "ip"
spelling Ip6 = codes "ip6"
spelling Source = codes "src"
spelling Target = codes "dst"
spelling Host = codes "host"
spelling Net = codes "net"
spelling Port = codes "port"

abbrev pub all_words : List Word
all_words = And ∷ Or ∷ Not ∷ Open ∷ Close ∷ Tcp ∷ Udp ∷ Ip ∷ Ip6 ∷ Source ∷ Target ∷ Host ∷ Net ∷ Port ∷ []

-- the word that a token is
unfoldable pub word : List ℕ → Option Word
word token = find (λ w. bytes_eq (spelling w) token) all_words
