-- The course of a call in code.
use Rattle.rank_rules.specs.Courses as rules
use Rattle.rank_engine.specs.declared.courses.Course.{Course}
use Rattle.rank_engine.specs.declared.courses.Course.TheVariants.{Null, Issue, LookUpAndIssue, Flush, Request}
use Rattle.rank_engine.specs.declared.courses.Course.TheVariants.{ArriveAndLeave, EntryOrTested, OneEntry}

-- the items that a call with this course has
abbrev pub items_of : Course → rules.Course
items_of Null = rules.OneNull
items_of Issue = rules.OneIssue
items_of LookUpAndIssue = rules.LookUpAndIssue
items_of Flush = rules.OneFlush
items_of Request = rules.OneRequest
items_of ArriveAndLeave = rules.ArriveAndLeave
items_of EntryOrTested = rules.EntryOrTested
items_of OneEntry = rules.OneEntry
