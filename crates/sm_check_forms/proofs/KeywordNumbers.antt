-- A number for each keyword, so that proofs can say which keywords belong together by one test. Those that layouts name come first.
use Rattle.std.proofs.Common.{◌≡◌, ℕ, true, ap, rules}
use denote.Enum.Bare.{same_true}
use Rattle.sm_report.specs.declared.keywords.Keyword.{Keyword}
use Rattle.sm_report.specs.declared.keywords.Keyword.TheVariants as keyword
use Rattle.sm_report.specs.contracts.keywords.Keyword.{the_type}
use Rattle.sm_check_forms.specs.Keywords.{is_same}

-- the number
abbrev pub keyword_number : Keyword → ℕ
keyword_number keyword.Pair = 0
keyword_number keyword.Nothing = 1
keyword_number keyword.Party = 2
keyword_number keyword.First = 3
keyword_number keyword.Last = 4
keyword_number keyword.Proposer = 5
keyword_number keyword.Reviewer = 6
keyword_number keyword.Rotation = 7
keyword_number keyword.Needs = 8
keyword_number keyword.Gain = 9
keyword_number keyword.Flow = 10
keyword_number keyword.Taken = 11
keyword_number keyword.Value = 12
keyword_number keyword.Cut = 13
keyword_number keyword.Total = 14
keyword_number keyword.Vector = 15
keyword_number keyword.More = 16
keyword_number keyword.Regret = 17
keyword_number keyword.Left = 18
keyword_number keyword.Right = 19
keyword_number keyword.End = 20
keyword_number keyword.Answer = 21
keyword_number keyword.Some = 22
keyword_number keyword.All = 23
keyword_number keyword.Listed = 24
keyword_number keyword.Tally = 25
keyword_number keyword.Yes = 26
keyword_number keyword.No = 27
keyword_number keyword.SecondGain = 28
keyword_number keyword.SecondFlow = 29
keyword_number keyword.SecondValue = 30
keyword_number keyword.SecondCut = 31
keyword_number keyword.SecondTotal = 32
keyword_number keyword.Back = 33
keyword_number keyword.Forth = 34
keyword_number keyword.Out = 35

-- keywords that are one have one number
pub same_number : (a b : Keyword) → is_same a b ≡ true → keyword_number a ≡ keyword_number b
same_number a b e = ap keyword_number (same_true the_type (search rules) a b e)
