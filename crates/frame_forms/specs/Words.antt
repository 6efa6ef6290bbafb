-- The words of the protocol, as bytes.
use Rattle.base.specs.Bytes.{Bytes, ascii}

abbrev pub word_icanhaz : Bytes
word_icanhaz = ascii "ICANHAZ?"

abbrev pub word_kthxbai : Bytes
word_kthxbai = ascii "KTHXBAI"

abbrev pub word_hugz : Bytes
word_hugz = ascii "HUGZ"
