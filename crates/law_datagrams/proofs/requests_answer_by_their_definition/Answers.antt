use Rattle.law_datagrams.proofs.Runs.{asked_by, news_by, woken_by}
use Rattle.law_datagrams.proofs.requests_answer_by_their_definition.Goals as goal

pub returns-clause-asked : goal.returns-clause-asked
returns-clause-asked c laws = λ gather sync exec task code arguments s is. asked_by 0 gather sync exec task code arguments s is

pub returns-clause-goes_on : goal.returns-clause-goes_on
returns-clause-goes_on c laws = λ gather sync exec key input s is. woken_by 0 gather sync exec key input s is

pub returns-clause-news : goal.returns-clause-news
returns-clause-news c laws = λ gather sync exec code bytes s is. news_by 0 gather sync exec code bytes s is
