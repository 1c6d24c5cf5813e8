mod ToldAnswers
