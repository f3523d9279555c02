-- The keywords with which the lines of answers begin.
use Rattle.sm_report.specs.Lines.{LineData}
use Rattle.sm_report.specs.declared.keywords.Keyword.{Keyword}
use Rattle.sm_report.specs.declared.keywords.Keyword.TheVariants as keyword

-- the keyword of a line
abbrev pub keyword_of : LineData → Keyword
keyword_of (LineData.Answer head) = keyword.Answer
keyword_of (LineData.Pair p r) = keyword.Pair
keyword_of LineData.Nothing = keyword.Nothing
keyword_of (LineData.Party persons) = keyword.Party
keyword_of (LineData.Out person) = keyword.Out
keyword_of (LineData.First p seat) = keyword.First
keyword_of (LineData.Last p seat) = keyword.Last
keyword_of (LineData.ProposerList p seats) = keyword.Proposer
keyword_of (LineData.ReviewerList seat proposers) = keyword.Reviewer
keyword_of (LineData.Rotation i pairs) = keyword.Rotation
keyword_of (LineData.Needs i needed) = keyword.Needs
keyword_of (LineData.Gain i gain) = keyword.Gain
keyword_of (LineData.SecondGain i gain) = keyword.SecondGain
keyword_of (LineData.Flow from to amount) = keyword.Flow
keyword_of (LineData.SecondFlow from to amount) = keyword.SecondFlow
keyword_of (LineData.Taken taken) = keyword.Taken
keyword_of (LineData.Value value) = keyword.Value
keyword_of (LineData.SecondValue value) = keyword.SecondValue
keyword_of (LineData.Cut value) = keyword.Cut
keyword_of (LineData.SecondCut value) = keyword.SecondCut
keyword_of (LineData.Total weight) = keyword.Total
keyword_of (LineData.SecondTotal weight) = keyword.SecondTotal
keyword_of (LineData.SomePair p r) = keyword.Some
keyword_of (LineData.AllPair p r) = keyword.All
keyword_of (LineData.Vector v) = keyword.Vector
keyword_of (LineData.More v) = keyword.More
keyword_of (LineData.Regret regret) = keyword.Regret
keyword_of (LineData.LeftPair p r) = keyword.Left
keyword_of (LineData.RightPair p r) = keyword.Right
keyword_of (LineData.Back i) = keyword.Back
keyword_of (LineData.Forth i) = keyword.Forth
keyword_of (LineData.Listed count) = keyword.Listed
keyword_of (LineData.TallyLine tag figures) = keyword.Tally
keyword_of LineData.Yes = keyword.Yes
keyword_of (LineData.No at reason) = keyword.No
keyword_of LineData.End = keyword.End
