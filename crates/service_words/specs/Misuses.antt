-- What a program says of words that are wrong.
use Rattle.std.specs.Prelude.{ℕ, List, codes}
use Rattle.service_words.specs.declared.misuses.Misuse.{Misuse}
use Rattle.service_words.specs.declared.misuses.Misuse.TheVariants as misuse

abbrev pub misuse_text : Misuse → List ℕ
misuse_text misuse.NodeNumber = codes "error: the number of a node is 1 to 16\n\nFor more information, try '--help'.\n"
misuse_text misuse.ClientNumber = codes "error: the number of a client is 1 to 1024\n\nFor more information, try '--help'.\n"
misuse_text misuse.ClientWords = codes "error: give a directory, and before it a client's number or nothing\n\nFor more information, try '--help'.\n"
misuse_text misuse.Problem = codes "error: a problem is 1 or 2\n\nFor more information, try '--help'.\n"
misuse_text misuse.Seconds = codes "error: the seconds are a number of at least 1\n\nFor more information, try '--help'.\n"
misuse_text misuse.TwoJournals = codes "error: give --no-journal or --sync-journal, not both\n\nFor more information, try '--help'.\n"
misuse_text misuse.PipesAlone = codes "error: --pipes needs --commands and --answers\n\nFor more information, try '--help'.\n"
misuse_text misuse.FilesAlone = codes "error: --commands and --answers need --pipes\n\nFor more information, try '--help'.\n"
