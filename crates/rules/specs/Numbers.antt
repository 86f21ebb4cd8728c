-- Public: the numbers of the rules and of the articles.
-- Assumes nothing.
use Rattle.std.specs.Prelude.{ℕ, Option, None, Some}
use Rattle.rules.specs.declared.Rule.{Rule}
use Rattle.rules.specs.declared.Rule.TheVariants as rule
use Rattle.rules.specs.declared.Article.{Article}
use Rattle.rules.specs.declared.Article.TheVariants as article

-- The rules have the numbers 1 to 11; where none is broken the number is 0.
abbrev pub number_of_rule : Rule → ℕ
number_of_rule rule.AccumulatedDriving = 1
number_of_rule rule.DailyDriving = 2
number_of_rule rule.WeeklyDriving = 3
number_of_rule rule.FortnightlyDriving = 4
number_of_rule rule.DailyRest = 5
number_of_rule rule.EntryForm = 6
number_of_rule rule.NetLength = 7
number_of_rule rule.CompensationInTime = 8
number_of_rule rule.ShortenedRests = 9
number_of_rule rule.WeeklyRestGap = 10
number_of_rule rule.WeeklyRests = 11

abbrev pub rule_or_none : Option Rule → ℕ
rule_or_none None = 0
rule_or_none (Some r) = number_of_rule r

-- A verdict tells an article by the number of its rule, and article 8 as a whole by 6.
abbrev pub number_of_article : Article → ℕ
number_of_article article.Breaks = 1
number_of_article article.DailyDriving = 2
number_of_article article.WeeklyDriving = 3
number_of_article article.FortnightlyDriving = 4
number_of_article article.DailyRests = 5
number_of_article article.Rests = 6

-- The article of each rule: rules 6 to 11 are of article 8 as a whole.
abbrev pub article_of : Rule → Article
article_of rule.AccumulatedDriving = article.Breaks
article_of rule.DailyDriving = article.DailyDriving
article_of rule.WeeklyDriving = article.WeeklyDriving
article_of rule.FortnightlyDriving = article.FortnightlyDriving
article_of rule.DailyRest = article.DailyRests
article_of rule.EntryForm = article.Rests
article_of rule.NetLength = article.Rests
article_of rule.CompensationInTime = article.Rests
article_of rule.ShortenedRests = article.Rests
article_of rule.WeeklyRestGap = article.Rests
article_of rule.WeeklyRests = article.Rests

-- The regulation's order: articles 6(1), 6(2), 6(3), 7, 8(2), which have the places 1 to 5, and 0 is the place of none.
abbrev pub place_of_article : Article → ℕ
place_of_article article.DailyDriving = 1
place_of_article article.WeeklyDriving = 2
place_of_article article.FortnightlyDriving = 3
place_of_article article.Breaks = 4
place_of_article article.DailyRests = 5
place_of_article article.Rests = 6

abbrev pub place_or_none : Option Article → ℕ
place_or_none None = 0
place_or_none (Some a) = place_of_article a
